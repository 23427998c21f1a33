-- The stays of the logs of a run in one regular configuration (docs/SPECIFICATIONS.md, "Following").
use Rattle.std.specs.Prelude.{◌≡◌, ℕ, ◌<◌, ◌≤◌, List, length}
use Rattle.totem_names.specs.declared.ring.RingId.{RingId}
use Rattle.totem_names.specs.declared.conf.ConfId.TheVariants.{Regular}
use Rattle.totem_evs.specs.declared.entry.Entry.{Entry}
use Rattle.totem_evs.specs.declared.entry.Entry.TheVariants.{Conf}
use Rattle.totem_evs.specs.Events.{IsChange, ChangesTo}
use Rattle.totem_judge.specs.declared.gathered.Stay.{Stay}

-- the entry is a change to the regular configuration of c
abbrev pub IsChangeToRing : Entry → RingId → Type 0
IsChangeToRing e c = (members : List ℕ) × (e ≡ Conf (Regular c) members)

-- the log has a change at this index, or ends there
pub record ChangesOrEnds (log : List Entry) (at : ℕ) : Type 0 where
  pub within : at ≤ length log
  pub change : at < length log → IsChange log at

-- the log changes to c where the stay begins, and changes or ends where it turns and where it ends
pub record IsBounded (log : List Entry) (c : RingId) (stay : Stay) : Type 0 where
  pub change : ChangesTo log stay.from (Regular c)
  pub turns : ChangesOrEnds log stay.turn
  pub ends : ChangesOrEnds log stay.end
  pub before : stay.from < stay.turn
  pub until : stay.turn ≤ stay.end
  pub further : stay.turn < length log → stay.turn < stay.end
