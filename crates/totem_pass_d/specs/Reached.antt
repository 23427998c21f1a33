-- The processes that a safe message has to reach (docs/SPECIFICATIONS.md, "7 Safe delivery").
use Rattle.std.specs.Prelude.{◌≡◌, ℕ, List, ◌<◌, ◌≤◌, slice_get, Some, Contains}
use Rattle.totem_names.specs.declared.ring.RingId.{RingId}
use Rattle.totem_names.specs.declared.conf.ConfId.{ConfId}
use Rattle.totem_names.specs.declared.conf.ConfId.TheVariants.{Regular}
use Rattle.totem_names.specs.declared.message.MsgId.{MsgId}
use Rattle.totem_names.specs.declared.message.Service.TheVariants.{Safe}
use Rattle.totem_evs.specs.declared.entry.Entry.{Entry}
use Rattle.totem_evs.specs.declared.entry.Entry.TheVariants.{Send}
use Rattle.totem_evs.specs.declared.log.Log.{Log}
use Rattle.totem_evs.specs.Events.{ChangesWith, log_of}
use Rattle.totem_evs.specs.Changes.{Names}

-- m was sent in c as a safe message
pub record IsSafeIn (run : List Log) (c : RingId) (m : MsgId) : Type 0 where
  pub proc : ℕ
  pub index : ℕ
  pub sends : slice_get (log_of run proc) index ≡ Some (Send m (Regular c) Safe)

-- these are the members of the configuration that the entry at i names, given by a change of this log
pub record AreMembersAt (log : List Entry) (i : ℕ) (members : List ℕ) : Type 0 where
  pub change : ℕ
  pub conf : ConfId
  pub with : ChangesWith log change conf members
  pub named : (d : ConfId) → Names log i d → d ≡ conf

-- these are the members, as above, at each index from turn on and before end
pub record AreMembersAfter (log : List Entry) (turn end : ℕ) (members : List ℕ) : Type 0 where
  pub each : (i : ℕ) → turn ≤ i → i < end → AreMembersAt log i members

-- P does not hold for one of the members
pub record HoldsNotOfAll (P : ℕ → Type 0) (members : List ℕ) : Type 0 where
  pub member : ℕ
  pub among : Contains members member
  pub never : P member → ⊥
