-- Where logs end, and which members end there too (docs/SPECIFICATIONS.md, "2 Changes of configuration").
use Rattle.std.specs.Prelude.{◌≡◌, ◌↔◌, ◌⊎◌, ℕ, ◌<◌, List, length, slice_get, Option, None, Some, IsTrue, Contains}
use Rattle.totem_names.specs.declared.conf.ConfId.{ConfId}
use Rattle.totem_evs.specs.declared.entry.Entry.{Entry}
use Rattle.totem_evs.specs.declared.entry.Entry.TheVariants.{Conf, Send, Deliver, Fail}
use Rattle.totem_evs.specs.declared.log.Log.{Log}
use Rattle.totem_evs.specs.declared.ending.Ending.TheVariants.{Quiet}
use Rattle.totem_evs.specs.Events.{ChangesTo, IsChange}
use Rattle.totem_evs.specs.Following.{IsLastChange, LastChange, NeverFails}
use Rattle.totem_evs.specs.Changes.{SharesEnd}
use Rattle.totem_evs.specs.Missing.{HasLog}
use Rattle.totem_judge_run.specs.declared.ends_2_1.LogEnd.{LogEnd}

-- a change to x
abbrev pub IsChangeTo : Entry → ConfId → Type 0
IsChangeTo (Conf y ms) x = y ≡ x
IsChangeTo (Send m y service) x = ⊥
IsChangeTo (Deliver m y) x = ⊥
IsChangeTo (Fail y) x = ⊥

-- the log has no change to x
pub record NeverChangesTo (log : List Entry) (x : ConfId) : Type 0 where
  pub none : (i : ℕ) → ChangesTo log i x → ⊥

-- the log has no failure
pub record GoesOn (log : List Entry) : Type 0 where
  pub never : NeverFails log

-- the log has no change
pub record HasNoChange (log : List Entry) : Type 0 where
  pub none : (k : ℕ) → IsChange log k → ⊥

-- the last change of the log is at i
pub record StandsLast (log : List Entry) (i : ℕ) : Type 0 where
  pub change : IsChange log i
  pub none_after : (k : ℕ) → i < k → IsChange log k → ⊥

-- the last change of the log is at this index, or it has none
abbrev pub IsLast : List Entry → Option ℕ → Type 0
IsLast log None = HasNoChange log
IsLast log (Some i) = StandsLast log i

-- the log ends in this way
pub record IsLogEnd (log : List Entry) (end : LogEnd) : Type 0 where
  pub goes_on : IsTrue end.goes_on ↔ GoesOn log
  pub last : IsLast log end.last

-- each log of the run ends in this way
pub record AreLogEnds (run : List Log) (ends : List LogEnd) : Type 0 where
  pub many : length ends ≡ length run
  pub each : (k : ℕ) (log : Log) (end : LogEnd) → slice_get run k ≡ Some log → slice_get ends k ≡ Some end → IsLogEnd log.entries end

-- the log is not quiet, and never changes to x
pub record MayCome (log : Log) (x : ConfId) : Type 0 where
  pub loud : log.ending ≡ Quiet → ⊥
  pub never : NeverChangesTo log.entries x

-- the log has no failure, and its last change is to x or its process may still arrive there
pub record LogShares (log : Log) (x : ConfId) : Type 0 where
  pub goes_on : GoesOn log.entries
  pub ends : LastChange log.entries x ⊎ MayCome log x

-- the log at k is p's
pub record IsLogOf (run : List Log) (p k : ℕ) : Type 0 where
  pub log : Log
  pub at : slice_get run k ≡ Some log
  pub proc : log.proc ≡ p

-- p has no log
pub record HasNoLog (run : List Log) (p : ℕ) : Type 0 where
  pub none : HasLog run p → ⊥

-- each of these members ends in x, or may still arrive there
pub record AllShare (run : List Log) (x : ConfId) (members : List ℕ) : Type 0 where
  pub each : (q : ℕ) → Contains members q → SharesEnd run x q

-- one of these members does neither
pub record SomeStrays (run : List Log) (x : ConfId) (members : List ℕ) : Type 0 where
  pub member : ℕ
  pub among : Contains members member
  pub strays : SharesEnd run x member → ⊥

-- the last change of the log is at i, and one of its members neither ends there nor may still arrive
pub record StraysAt (run : List Log) (log : List Entry) (i : ℕ) : Type 0 where
  pub conf : ConfId
  pub members : List ℕ
  pub last : IsLastChange log i conf members
  pub strays : SomeStrays run conf members

-- each member of the log's last change shares its end
pub record EndsWithAll (run : List Log) (log : List Entry) : Type 0 where
  pub each : (i : ℕ) (x : ConfId) (ms : List ℕ) (q : ℕ) → IsLastChange log i x ms → Contains ms q → SharesEnd run x q
