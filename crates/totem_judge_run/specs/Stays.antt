-- The part of a log that is in one regular configuration and in what follows it (docs/SPECIFICATIONS.md, "Following").
use Rattle.std.specs.Prelude.{◌≡◌, ◌⊎◌, ℕ, ◌<◌, ◌≤◌, List, length}
use Rattle.totem_names.specs.declared.ring.RingId.{RingId}
use Rattle.totem_names.specs.declared.conf.ConfId.{ConfId}
use Rattle.totem_names.specs.declared.conf.ConfId.TheVariants.{Regular}
use Rattle.totem_evs.specs.declared.entry.Entry.{Entry}
use Rattle.totem_evs.specs.Events.{IsChange, ChangesTo}
use Rattle.totem_evs.specs.Changes.{Names}
use Rattle.totem_evs.specs.Following.{IsNextChange, IsNextOrEnd, Follows, Com, FailedIn, StaysIn}

-- from i on, the next change is at j, and the one after that at k; if there is no next one, k is j
pub record AreNextTwo (log : List Entry) (i j k : ℕ) : Type 0 where
  pub first : IsNextOrEnd log i j
  pub second : j < length log → IsNextOrEnd log j k
  pub whole : length log ≤ j → k ≡ j

-- a change to c, the next one, and the one after that
pub record Bounds (log : List Entry) (c : RingId) (from turn end : ℕ) : Type 0 where
  pub change : ChangesTo log from (Regular c)
  pub two : AreNextTwo log from turn end

-- the change at `turn` is to the configuration that follows c in the log
pub record TurnsAt (log : List Entry) (c : RingId) (turn : ℕ) : Type 0 where
  pub conf : ConfId
  pub change : ChangesTo log turn conf
  pub follows : Follows log c conf

-- the log changes to c at `from` and to what follows it at `turn`, and its entries up to `end` are those in these two
-- configurations; if nothing follows, `turn` is `end`
pub record IsStay (log : List Entry) (c : RingId) (from turn end : ℕ) : Type 0 where
  pub before : from < turn
  pub until : turn ≤ end
  pub within : end ≤ length log
  pub change : ChangesTo log from (Regular c)
  pub turns : turn < end → TurnsAt log c turn
  -- the entries here are exactly those in c and in what follows it
  pub here : (i : ℕ) (d : ConfId) → Names log i d → Com log c d → (from < i) × (i < end)
  pub regular : (i : ℕ) (d : ConfId) → from < i → i < turn → Names log i d → d ≡ Regular c
  pub following : (i : ℕ) (d : ConfId) → turn < i → i < end → Names log i d → Follows log c d
  pub changes : (i : ℕ) → from < i → i < end → IsChange log i → i ≡ turn
  -- the next change after that to c, and the one after what follows it
  pub next : turn < length log → (turn < end) × IsNextChange log from turn
  pub last : turn < end → end < length log → IsNextChange log turn end
  -- the stay reaches the end of the log if and only if the process failed in these two or the log stays there
  pub ends : end ≡ length log → FailedIn log c ⊎ StaysIn log c
  pub goes_on : end < length log → FailedIn log c ⊎ StaysIn log c → ⊥
