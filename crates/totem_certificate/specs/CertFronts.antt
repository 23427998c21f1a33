-- Bytes with which the text of a certificate begins (docs/SPECIFICATIONS.md, "Certificate text").
use Rattle.std.specs.Prelude.{◌≡◌, ℕ, ◌≤◌, List, [], ◌∷◌, ◌++◌, length, All, AllPairs}
use Rattle.totem_names.specs.declared.version.Version.{Version}
use Rattle.totem_evs.specs.Certificates.{Numbering}
use Rattle.totem_evs.specs.TextFronts.{but_last}
use Rattle.totem_certificate.specs.CertRecord.{CertRecord}
use Rattle.totem_certificate.specs.Keeping.{IsBelowLine, IsLineIn, IsCertificateOf, IsOfText}
use Rattle.totem_certificate.specs.CertText.{cert_text}

-- the text of some certificate begins with these bytes
abbrev pub IsFront : List ℕ → Type 0
IsFront bytes = (cert : CertRecord) × (more : List ℕ) × IsCertificateOf cert × (cert_text cert ≡ bytes ++ more)

-- ---- certificates whose last process need not be above the one before: that is judged only at the byte after a
-- process, since further digits may follow until then. All else is as in a certificate

-- 0 to 32 lines, their processes strictly ascending except for the last
pub record IsLooseCertificate (version : Version) (lines : List Numbering) : Type 0 where
  pub few : length lines ≤ 32
  pub rising : AllPairs IsBelowLine (but_last lines)
  pub each : All (IsLineIn version) lines

-- the text of some certificate whose last process need not be above the one before begins with these bytes
abbrev pub IsLooseFront : List ℕ → Type 0
IsLooseFront bytes = (cert : CertRecord) × (more : List ℕ) × IsOfText cert.version × IsLooseCertificate cert.version cert.lines × (cert_text cert ≡ bytes ++ more)

-- some such text begins with the bytes before this one, and no certificate's text begins with this byte too
pub record IsFirstWrong (front : List ℕ) (byte : ℕ) : Type 0 where
  pub before : IsLooseFront front
  pub wrong : IsFront (front ++ byte ∷ []) → ⊥
