-- Which lines a text without lives can write (docs/SPECIFICATIONS.md, "Certificates").
use Rattle.std.specs.Prelude.{◌≡◌, ℕ, List, All, slice_get, take, Some, false}
use Rattle.totem_names.specs.declared.version.Version.{Version}
use Rattle.totem_names.specs.declared.version.Version.TheVariants.{One, Two, Three}
use Rattle.totem_names.specs.Ranks.{life_of}
use Rattle.totem_names.specs.Processes.{writes_lives}
use Rattle.totem_names.specs.declared.refused.ListFault.{ListFault}
use Rattle.totem_names.specs.declared.refused.ListFault.TheVariants.{Empty, TooMany, NotRising, Life, Silence}
use Rattle.totem_evs.specs.Certificates.{Numbering}
use Rattle.totem_names.specs.Lists.{Refuses}
use Rattle.totem_certificate.specs.Keeping.{IsBelowLine, IsCertificate}

-- the process of a line has life 1
abbrev pub HasFirstLife : Numbering → Type 0
HasFirstLife line = life_of line.proc ≡ 1

-- the first version whose texts can write these lines
abbrev pub IsFirstVersion : Version → List Numbering → Type 0
IsFirstVersion One lines = All HasFirstLife lines
IsFirstVersion Two lines = All HasFirstLife lines → ⊥
IsFirstVersion Three lines = ⊥

-- a text of this version writes no lives, and the line at this index is the first with another life than 1
pub record IsUnwritten (version : Version) (lines : List Numbering) (at : ℕ) : Type 0 where
  pub lives : writes_lives version ≡ false
  pub line : Numbering
  pub there : slice_get lines at ≡ Some line
  pub other : HasFirstLife line → ⊥
  pub before : All HasFirstLife (take at lines)

-- the first rule of a certificate of this version that these lines break
abbrev pub RefusesCertificate : Version → List Numbering → ListFault → Type 0
RefusesCertificate version lines Empty = Refuses 0 32 IsBelowLine lines Empty
RefusesCertificate version lines (TooMany limit) = Refuses 0 32 IsBelowLine lines (TooMany limit)
RefusesCertificate version lines (NotRising at) = Refuses 0 32 IsBelowLine lines (NotRising at)
RefusesCertificate version lines (Life at) = IsCertificate lines × IsUnwritten version lines at
RefusesCertificate version lines (Silence at) = ⊥
