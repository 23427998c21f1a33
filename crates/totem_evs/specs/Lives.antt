-- Which logs the texts of a version can write (docs/SPECIFICATIONS.md, "Runs").
use Rattle.std.specs.Prelude.{◌≡◌, ◌≢◌, ℕ, List, All, slice_get, take, Some, false}
use Rattle.totem_names.specs.declared.version.Version.{Version}
use Rattle.totem_names.specs.declared.version.Version.TheVariants.{One, Two, Three}
use Rattle.totem_names.specs.Ranks.{life_of}
use Rattle.totem_names.specs.Processes.{writes_lives}
use Rattle.totem_names.specs.declared.refused.ListFault.{ListFault}
use Rattle.totem_names.specs.declared.refused.ListFault.TheVariants.{Empty, TooMany, NotRising, Life, Silence}
use Rattle.totem_evs.specs.declared.ending.Ending.TheVariants.{Quiet}
use Rattle.totem_evs.specs.Endings.{writes_quiet}
use Rattle.totem_evs.specs.LogRecord.{LogRecord}
use Rattle.totem_names.specs.Lists.{Refuses}
use Rattle.totem_evs.specs.Missing.{members_of}
use Rattle.totem_evs.specs.Runs.{IsRun, IsBelowLog}

-- each of these processes has life 1
abbrev pub AreFirst : List ℕ → Type 0
AreFirst procs = All (λ p. life_of p ≡ 1) procs

-- the process of a log and all members that it names have life 1
abbrev pub HasFirstLives : LogRecord → Type 0
HasFirstLives log = (life_of log.proc ≡ 1) × All (λ e. AreFirst (members_of e)) log.entries

-- none of the logs is quiet
abbrev pub AreLoud : List LogRecord → Type 0
AreLoud logs = All (λ log. log.ending ≢ Quiet) logs

-- the first version whose texts can write these logs
abbrev pub IsFirstVersion : Version → List LogRecord → Type 0
IsFirstVersion One logs = AreLoud logs × All HasFirstLives logs
IsFirstVersion Two logs = AreLoud logs × (All HasFirstLives logs → ⊥)
IsFirstVersion Three logs = AreLoud logs → ⊥

-- a text of this version writes no lives, and the log at this index is the first that has another life than 1
pub record IsUnwritten (version : Version) (logs : List LogRecord) (at : ℕ) : Type 0 where
  pub lives : writes_lives version ≡ false
  pub log : LogRecord
  pub there : slice_get logs at ≡ Some log
  pub other : HasFirstLives log → ⊥
  pub before : All HasFirstLives (take at logs)

-- a text of this version has no word for quiet logs, and the log at this index is the first quiet one
pub record IsUnsaid (version : Version) (logs : List LogRecord) (at : ℕ) : Type 0 where
  pub unwritten : writes_quiet version ≡ false
  pub log : LogRecord
  pub there : slice_get logs at ≡ Some log
  pub quiet : log.ending ≡ Quiet
  pub before : AreLoud (take at logs)

-- the first rule of a run of this version that these logs break: a life that cannot be written counts before a quiet log that cannot
abbrev pub RefusesRun : Version → List LogRecord → ListFault → Type 0
RefusesRun version logs Empty = Refuses 0 32 IsBelowLog logs Empty
RefusesRun version logs (TooMany limit) = Refuses 0 32 IsBelowLog logs (TooMany limit)
RefusesRun version logs (NotRising at) = Refuses 0 32 IsBelowLog logs (NotRising at)
RefusesRun version logs (Life at) = IsRun logs × IsUnwritten version logs at
RefusesRun version logs (Silence at) = IsRun logs × (writes_lives version ≡ false → All HasFirstLives logs) × IsUnsaid version logs at
