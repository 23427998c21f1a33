-- Bytes with which the text of a run begins (docs/SPECIFICATIONS.md, "Run text").
use Rattle.totem_evs.specs.RunRecord.{RunRecord}
use Rattle.std.specs.Prelude.{◌≡◌, ℕ, ◌<◌, ◌≤◌, List, [], ◌∷◌, ◌++◌, length, All, AllPairs}
use Rattle.totem_names.specs.declared.version.Version.{Version}
use Rattle.totem_names.specs.Processes.{IsProcessIn}
use Rattle.totem_names.specs.Texts.{IsConf, IsMessage}
use Rattle.totem_evs.specs.declared.entry.Entry.{Entry}
use Rattle.totem_evs.specs.declared.entry.Entry.TheVariants.{Conf, Send, Deliver, Fail}
use Rattle.totem_evs.specs.declared.log.Log.{Log}
use Rattle.totem_evs.specs.Members.{IsBelow}
use Rattle.totem_evs.specs.Runs.{IsBelowLog, IsClosedBy, IsEntryIn, IsLogIn, IsRunOf}
use Rattle.totem_evs.specs.Endings.{IsEndingIn}
use Rattle.totem_evs.specs.RunText.{run_text}

-- the text of some run begins with these bytes
abbrev pub IsFront : List ℕ → Type 0
IsFront bytes = (run : RunRecord) × (more : List ℕ) × IsRunOf run × (run_text run ≡ bytes ++ more)

-- ---- runs whose last process need not be above the one before: that is judged only at the byte after a process, since
-- further digits may follow until then. The last log need not be above the one before, nor the last member of
-- the last entry; all else is as in a run

-- all but the last
abbrev pub but_last : {X : Type 0} → List X → List X
but_last [] = []
but_last (x ∷ []) = []
but_last (x ∷ y ∷ xs) = x ∷ but_last (y ∷ xs)

-- 1 to 32 processes, ascending except for the last
pub record IsLooseMembers (version : Version) (members : List ℕ) : Type 0 where
  pub some : 0 < length members
  pub few : length members ≤ 32
  pub rising : AllPairs IsBelow (but_last members)
  pub processes : All (IsProcessIn version) members

-- an entry whose last member need not be above the one before
abbrev pub IsLooseEntry : Version → Entry → Type 0
IsLooseEntry version (Conf x members) = IsConf x × IsLooseMembers version members
IsLooseEntry version (Send m x service) = IsMessage m × IsConf x
IsLooseEntry version (Deliver m x) = IsMessage m × IsConf x
IsLooseEntry version (Fail x) = IsConf x

-- 1 to 1,000,000 entries, the last of which may be such an entry
pub record IsLooseEntries (version : Version) (entries : List Entry) : Type 0 where
  pub some : 0 < length entries
  pub few : length entries ≤ 1000000
  pub before : All (IsEntryIn version) (but_last entries)
  pub each : All (IsLooseEntry version) entries

-- a log of such entries
pub record IsLooseLog (version : Version) (log : Log) : Type 0 where
  pub process : IsProcessIn version log.proc
  pub entries : IsLooseEntries version log.entries
  pub ending : IsClosedBy log.entries log.ending
  pub word : IsEndingIn version log.ending

-- 0 to 32 logs, the last of which may be such a log, and need not be above the one before
pub record IsLooseRun (version : Version) (logs : List Log) : Type 0 where
  pub few : length logs ≤ 32
  pub rising : AllPairs IsBelowLog (but_last logs)
  pub before : All (IsLogIn version) (but_last logs)
  pub each : All (IsLooseLog version) logs

-- the text of some run whose last process need not be above the one before begins with these bytes
abbrev pub IsLooseFront : List ℕ → Type 0
IsLooseFront bytes = (run : RunRecord) × (more : List ℕ) × IsLooseRun run.version run.logs × (run_text run ≡ bytes ++ more)

-- some such text begins with the bytes before this one, and no run's text begins with this byte too
pub record IsFirstWrong (front : List ℕ) (byte : ℕ) : Type 0 where
  pub before : IsLooseFront front
  pub wrong : IsFront (front ++ byte ∷ []) → ⊥
