-- How the stays of one regular configuration end (docs/SPECIFICATIONS.md, "Failed and open").
use Rattle.std.specs.Prelude.{◌≡◌, ◌↔◌, ℕ, ◌<◌, List, length, slice_get, Some}
use Rattle.totem_evs.specs.declared.log.Log.{Log}
use Rattle.totem_evs.specs.declared.ending.Ending.TheVariants.{Failed, Quiet}
use Rattle.totem_judge_traffic.specs.declared.log_set.LogSet.{LogSet}
use Rattle.totem_judge_traffic.specs.LogSets.{Has}
use Rattle.totem_judge.specs.declared.gathered.Stay.{Stay}

-- one of the first n stays is of this log and keeps the condition
pub record HasSuch (Such : Stay → Type 0) (stays : List Stay) (n log : ℕ) : Type 0 where
  pub at : ℕ
  pub stay : Stay
  pub before : at < n
  pub stands : slice_get stays at ≡ Some stay
  pub of : stay.log ≡ log
  pub such : Such stay

-- the set has the logs of those of the first n stays that keep the condition
pub record Selects (Such : Stay → Type 0) (stays : List Stay) (n : ℕ) (set : LogSet) : Type 0 where
  pub exact : (log : ℕ) → Has set log ↔ HasSuch Such stays n log

abbrev pub IsAny : Stay → Type 0
IsAny stay = Unit {0}

-- the stay reaches the end of its log, which is not quiet
pub record IsExcusedIn (run : List Log) (stay : Stay) : Type 0 where
  pub log : Log
  pub stands : slice_get run stay.log ≡ Some log
  pub end : stay.end ≡ length log.entries
  pub loud : log.ending ≡ Quiet → ⊥

-- the log of the stay does not end as failed
pub record GoesOnAt (run : List Log) (stay : Stay) : Type 0 where
  pub log : Log
  pub stands : slice_get run stay.log ≡ Some log
  pub goes_on : log.ending ≡ Failed → ⊥

abbrev pub IsOpenAt : List Log → Stay → Type 0
IsOpenAt run stay = IsExcusedIn run stay × GoesOnAt run stay

-- how the first n stays end: their logs, those of them that fail or are open, and those that are open
pub record AreEnds (run : List Log) (stays : List Stay) (n : ℕ) (logs ended still_open : LogSet) : Type 0 where
  pub all : Selects IsAny stays n logs
  pub ending : Selects (IsExcusedIn run) stays n ended
  pub opened : Selects (IsOpenAt run) stays n still_open
