-- The rules that a certificate keeps, and what is wrong with numbers that a line can't hold (docs/SPECIFICATIONS.md,
-- "Certificates").
use Rattle.std.specs.Prelude.{◌≡◌, ℕ, ◌<◌, ◌≤◌, List, [], length, take, slice_get, Some, All, AllPairs}
use Rattle.totem_names.specs.declared.version.Version.{Version}
use Rattle.totem_names.specs.declared.version.Version.TheVariants.{One, Two, Three}
use Rattle.totem_names.specs.Processes.{IsProcessIn}
use Rattle.totem_names.specs.Texts.{IsUpTo}
use Rattle.totem_evs.specs.Certificates.{Numbering}
use Rattle.totem_certificate.specs.CertRecord.{CertRecord}
use Rattle.totem_certificate.specs.declared.numbers.NumbersFault.{NumbersFault}
use Rattle.totem_certificate.specs.declared.numbers.NumbersFault.TheVariants.{Empty, TooMany, Zero}

-- the number of an entry
abbrev pub IsNumber : ℕ → Type 0
IsNumber = IsUpTo 4294967295

-- 1 to 1,000,000 numbers
pub record IsNumbers (numbers : List ℕ) : Type 0 where
  pub some : 0 < length numbers
  pub few : length numbers ≤ 1000000
  pub each : All IsNumber numbers

pub record IsLineIn (version : Version) (line : Numbering) : Type 0 where
  pub process : IsProcessIn version line.proc
  pub numbers : IsNumbers line.numbers

-- a line with a process of any life
abbrev pub IsLine : Numbering → Type 0
IsLine = IsLineIn Two

-- one process is below the other: by identifier, and then by life
abbrev pub IsBelowLine : Numbering → Numbering → Type 0
IsBelowLine a b = a.proc < b.proc

-- the lines of a certificate that texts of this version can write: 0 to 32, their processes strictly ascending. If the
-- version writes no lives, each process has life 1
pub record IsCertificateIn (version : Version) (lines : List Numbering) : Type 0 where
  pub few : length lines ≤ 32
  pub rising : AllPairs IsBelowLine lines
  pub each : All (IsLineIn version) lines

-- the lines of a certificate with any lives
abbrev pub IsCertificate : List Numbering → Type 0
IsCertificate = IsCertificateIn Two

-- the versions that texts of certificates have
abbrev pub IsOfText : Version → Type 0
IsOfText One = Unit {0}
IsOfText Two = Unit {0}
IsOfText Three = ⊥

-- the version of the certificate of a run of this version: a certificate does not say how logs end, so it never has version 3
abbrev pub certificate_version : Version → Version
certificate_version One = One
certificate_version Two = Two
certificate_version Three = Two

-- a certificate: texts of its version can write its lines
pub record IsCertificateOf (certificate : CertRecord) : Type 0 where
  pub version : IsOfText certificate.version
  pub lines : IsCertificateIn certificate.version certificate.lines

-- the numbers before `at` are above 0, and the one there is 0
pub record IsFirstZero (numbers : List ℕ) (at : ℕ) : Type 0 where
  pub before : All IsNumber (take at numbers)
  pub zero_there : slice_get numbers at ≡ Some 0

-- the first rule that these numbers break
abbrev pub RefusesNumbers : List ℕ → NumbersFault → Type 0
RefusesNumbers numbers Empty = numbers ≡ []
RefusesNumbers numbers (TooMany limit) = (limit ≡ 1000000) × (1000000 < length numbers)
RefusesNumbers numbers (Zero at) = (length numbers ≤ 1000000) × IsFirstZero numbers at
