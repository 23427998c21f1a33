-- Where the logs of a run end, and which processes wait there (docs/SPECIFICATIONS.md, "Pending and waiting").
use Rattle.std.specs.Prelude.{◌≡◌, ◌↔◌, ℕ, ◌<◌, List, length, slice_get, Option, None, Some, AllPairs, Contains}
use Rattle.totem_names.specs.declared.conf.ConfId.{ConfId}
use Rattle.totem_evs.specs.declared.entry.Entry.{Entry}
use Rattle.totem_evs.specs.declared.log.Log.{Log}
use Rattle.totem_evs.specs.declared.pending.Pending.{Pending}
use Rattle.totem_evs.specs.declared.pending.Waiting.{Waiting}
use Rattle.totem_evs.specs.Events.{IsChange, Fails}
use Rattle.totem_evs.specs.Following.{NeverFails}
use Rattle.totem_evs.specs.Unsettled.{EndsIn, IsWaiting, WaitingBelow, PendingBelow, IsPending}

-- the log has a failure
pub record HasFailed (log : List Entry) : Type 0 where
  pub index : ℕ
  pub conf : ConfId
  pub fails : Fails log index conf

-- the log has no failure, and its last change is at i
pub record StandsAtEnd (log : List Entry) (i : ℕ) : Type 0 where
  pub goes_on : NeverFails log
  pub change : IsChange log i
  pub last : (k : ℕ) → i < k → IsChange log k → ⊥

-- the log ends in no configuration
pub record EndsNowhere (log : List Entry) : Type 0 where
  pub never : (x : ConfId) → EndsIn log x → ⊥

-- the log's last change is at this index, or the log ends in no configuration
abbrev pub IsEnd : List Entry → Option ℕ → Type 0
IsEnd log (Some i) = StandsAtEnd log i
IsEnd log None = EndsNowhere log

-- each log of the run ends in this way
pub record AreEnds (run : List Log) (ends : List (Option ℕ)) : Type 0 where
  pub many : length ends ≡ length run
  pub each : (k : ℕ) (log : Log) (last : Option ℕ) → slice_get run k ≡ Some log → slice_get ends k ≡ Some last → IsEnd log.entries last

-- the processes for which p waits, in ascending order
pub record AreWaitingAt (run : List Log) (p : ℕ) (list : List Waiting) : Type 0 where
  pub rising : AllPairs WaitingBelow list
  pub exact : (w : Waiting) → Contains list w ↔ (IsWaiting run w.proc w.conf w.other × (w.proc ≡ p))

-- the elements of a list, each once, in ascending order
pub record IsInOrder (list ordered : List Pending) : Type 0 where
  pub rising : AllPairs PendingBelow ordered
  pub same : (x : Pending) → Contains ordered x ↔ Contains list x

-- all that is pending, in some order
pub record HoldsPending (run : List Log) (list : List Pending) : Type 0 where
  pub each : (x : Pending) → Contains list x ↔ IsPending run x.proc x.msg
