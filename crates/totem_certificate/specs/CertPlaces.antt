-- Where each fault of a certificate's text is (docs/SPECIFICATIONS.md, "Certificate text").
use Rattle.std.specs.Prelude.{◌≡◌, ℕ, ◌<◌, ◌==◌, ◌⊎◌, List, [], ◌∷◌, ◌++◌, length, codes, All, Some, true, false, Ok, Err}
use Rattle.std.specs.List.{flat_map}
use Rattle.totem_names.specs.declared.fault.TextFault.{TextFault}
use Rattle.totem_names.specs.declared.version.Version.{Version}
use Rattle.totem_names.specs.Processes.{process_text, IsProcessIn}
use Rattle.totem_evs.specs.Certificates.{Numbering}
use Rattle.totem_evs.specs.Heads.{head_at}
use Rattle.totem_evs.specs.HeadFaults.{BreaksFirstLine, BeginsBelow}
use Rattle.totem_evs.specs.TextFaults.{BreaksNumber}
use Rattle.totem_certificate.specs.CertRecord.{CertRecord}
use Rattle.totem_certificate.specs.Keeping.{IsNumber, IsCertificateOf}
use Rattle.totem_certificate.specs.CertText.{numbers_text, line_text, header_text}
use Rattle.totem_certificate.specs.CertGrammar.{cert_words, numbers_at, cert_at}

-- ---- the line that has the fault

-- the process of the last of the lines, or `last` if there is none
abbrev pub last_proc : ℕ → List Numbering → ℕ
last_proc last [] = last
last_proc last (l ∷ lines) = last_proc l.proc lines

-- the bytes begin with the first line of this certificate and its lines, and this holds for its version, the number of
-- these lines, the process of the last one, and the bytes that follow
pub record IsBehindLines (bytes : List ℕ) (Is : Version → ℕ → ℕ → List ℕ → Type 0) : Type 0 where
  pub cert : CertRecord
  pub rest : List ℕ
  pub are : IsCertificateOf cert
  pub is_bytes : bytes ≡ header_text cert.version ++ (flat_map (line_text (process_text cert.version)) cert.lines ++ rest)
  pub is : Is cert.version (length cert.lines) (last_proc 0 cert.lines) rest

-- the next line has this fault: up to the space before its numbers, or in its numbers
abbrev pub HasFault : TextFault → Version → ℕ → ℕ → List ℕ → Type 0
HasFault fault version count last rest =
    (head_at cert_words version (count == 32) last rest ≡ Err fault)
    ⊎ ((p : ℕ) × (mid : List ℕ) × (head_at cert_words version (count == 32) last rest ≡ Ok (Some p, mid)) × (numbers_at 1000000 mid ≡ Err fault))

-- ---- Header

-- the first line is not that of a certificate
abbrev pub BreaksHeader : List ℕ → Type 0
BreaksHeader bytes = BreaksFirstLine cert_words bytes

-- ---- Order

-- where a line may begin, one does whose process is not above that of the last one
abbrev pub HasOrder : Version → ℕ → ℕ → List ℕ → Type 0
HasOrder version count last rest = BeginsBelow cert_words version (count == 32) last rest

-- ---- TooMany

-- a line with a space after its 1,000,000th number
pub record HasManyNumbers (version : Version) (count last : ℕ) (rest : List ℕ) : Type 0 where
  pub proc : ℕ
  pub numbers : List ℕ
  pub more : List ℕ
  pub room : (count == 32) ≡ false
  pub fits : IsProcessIn version proc
  pub above : last < proc
  pub each : All IsNumber numbers
  pub many : length numbers ≡ 1000000
  pub is : rest ≡ codes "pos " ++ (process_text version proc ++ (numbers_text numbers ++ 32 ∷ more))

-- the first letter of a 33rd line, or one number too many
abbrev pub HasTooMany : Version → ℕ → ℕ → List ℕ → Type 0
HasTooMany version count last rest = ((more : List ℕ) × ((count == 32) ≡ true) × (rest ≡ codes "p" ++ more)) ⊎ HasManyNumbers version count last rest

-- ---- Word

-- no other fault of the grammar applies here
pub record HasNoOther (bytes : List ℕ) : Type 0 where
  pub header : BreaksHeader bytes → ⊥
  pub number : BreaksNumber cert_at bytes → ⊥
  pub order : IsBehindLines bytes HasOrder → ⊥
  pub many : IsBehindLines bytes HasTooMany → ⊥
