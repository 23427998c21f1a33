-- The versions of scripts, and the run of some logs (docs/PROTOCOL.md, "Scripts"; docs/SPECIFICATIONS.md, "Runs").
use Rattle.std.specs.Prelude.{◌≡◌, ℕ, ◌≤◌, List, length, All, AllPairs, if◌then◌else◌, Option, None, Some, codes}
use Rattle.std.specs.Str.{bytes_eq}
use Rattle.totem_names.specs.declared.version.Version.{Version}
use Rattle.totem_names.specs.declared.version.Version.TheVariants.{One, Two}
use Rattle.totem_evs.specs.LogRecord.{LogRecord}
use Rattle.totem_evs.specs.Lives.{AreLoud, HasFirstLives}
use Rattle.totem_evs.specs.RunRecord.{RunRecord}
use Rattle.totem_evs.specs.Runs.{IsBelowLog}
use Rattle.totem_script.specs.declared.script_version.ScriptVersion.{ScriptVersion}
use Rattle.totem_script.specs.declared.script_version.ScriptVersion.TheVariants as script

-- the version that a script's first line names
abbrev pub version_in : List ℕ → Option ScriptVersion
version_in line =
    if bytes_eq line (codes "totem-script 1") then Some script.One
    else if bytes_eq line (codes "totem-script 2") then Some script.Two
    else None

-- the version of the runs that scripts of this version make
abbrev pub version_of : ScriptVersion → Version
version_of script.One = One
version_of script.Two = Two

-- in a script of version 1 no life but the first is named
abbrev pub FitVersion : ScriptVersion → List LogRecord → Type 0
FitVersion version logs = version ≡ script.One → All HasFirstLives logs

-- at most 32 logs, their processes strictly ascending, none of them quiet, for a script of this version
pub record AreRunLogs (version : ScriptVersion) (logs : List LogRecord) : Type 0 where
  pub few : length logs ≤ 32
  pub rising : AllPairs IsBelowLog logs
  pub loud : AreLoud logs
  pub fit : FitVersion version logs

-- the run of these logs, in the version of the script
abbrev pub run_of : ScriptVersion → List LogRecord → RunRecord
run_of version logs = record { version = version_of version; logs = logs }
