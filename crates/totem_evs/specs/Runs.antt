-- What a run is (docs/SPECIFICATIONS.md, "Runs").
use Rattle.totem_evs.specs.RunRecord.{RunRecord}
use Rattle.std.specs.Prelude.{◌≡◌, ℕ, ◌+◌, ◌<◌, ◌≤◌, ◌↔◌, List, length, All, AllPairs, slice_get, Some}
use Rattle.totem_evs.specs.declared.entry.Entry.{Entry}
use Rattle.totem_evs.specs.declared.entry.Entry.TheVariants.{Conf, Send, Deliver, Fail}
use Rattle.totem_evs.specs.declared.ending.Ending.{Ending}
use Rattle.totem_evs.specs.declared.ending.Ending.TheVariants.{Failed}
use Rattle.totem_names.specs.declared.version.Version.{Version}
use Rattle.totem_names.specs.declared.version.Version.TheVariants.{Three}
use Rattle.totem_names.specs.Processes.{IsProcessIn}
use Rattle.totem_names.specs.Texts.{IsConf, IsMessage}
use Rattle.totem_evs.specs.Members.{IsMembersIn}
use Rattle.totem_evs.specs.LogRecord.{LogRecord}
use Rattle.totem_evs.specs.Endings.{IsEndingIn}

-- names are in range, and a change has members that texts of this version can write
abbrev pub IsEntryIn : Version → Entry → Type 0
IsEntryIn version (Conf x members) = IsConf x × IsMembersIn version members
IsEntryIn version (Send m x service) = IsMessage m × IsConf x
IsEntryIn version (Deliver m x) = IsMessage m × IsConf x
IsEntryIn version (Fail x) = IsConf x

-- an entry with processes of any lives
abbrev pub IsEntry : Entry → Type 0
IsEntry e = IsEntryIn Three e

abbrev pub IsFailure : Entry → Type 0
IsFailure (Conf x members) = ⊥
IsFailure (Send m x service) = ⊥
IsFailure (Deliver m x) = ⊥
IsFailure (Fail x) = Unit {0}

-- 1 to 1,000,000 entries
pub record IsEntriesIn (version : Version) (entries : List Entry) : Type 0 where
  pub some : 0 < length entries
  pub few : length entries ≤ 1000000
  pub each : All (IsEntryIn version) entries

abbrev pub IsEntries : List Entry → Type 0
IsEntries = IsEntriesIn Three

-- the last entry is a failure
abbrev pub EndsInFail : List Entry → Type 0
EndsInFail entries = (i : ℕ) × (last : Entry) × (length entries ≡ i + 1) × (slice_get entries i ≡ Some last) × IsFailure last

-- a log ends as failed if and only if its last entry is a failure
abbrev pub IsClosedBy : List Entry → Ending → Type 0
IsClosedBy entries ending = (ending ≡ Failed) ↔ EndsInFail entries

pub record IsLogIn (version : Version) (log : LogRecord) : Type 0 where
  pub process : IsProcessIn version log.proc
  pub entries : IsEntriesIn version log.entries
  pub ending : IsClosedBy log.entries log.ending
  pub word : IsEndingIn version log.ending

abbrev pub IsLog : LogRecord → Type 0
IsLog = IsLogIn Three

-- one process is below the other: by identifier, and then by life
abbrev pub IsBelowLog : LogRecord → LogRecord → Type 0
IsBelowLog a b = a.proc < b.proc

-- the logs of a run that texts of this version can write: 0 to 32, their processes strictly ascending. If the version
-- writes no lives, each process has life 1; if it has no word for quiet logs, no log is quiet
pub record IsRunIn (version : Version) (logs : List LogRecord) : Type 0 where
  pub few : length logs ≤ 32
  pub rising : AllPairs IsBelowLog logs
  pub each : All (IsLogIn version) logs

-- the logs of a run with any lives and endings
abbrev pub IsRun : List LogRecord → Type 0
IsRun = IsRunIn Three

-- a run: texts of its version can write its logs
abbrev pub IsRunOf : RunRecord → Type 0
IsRunOf run = IsRunIn run.version run.logs
