-- The effect of one member's own acts alone.
use Rattle.std.specs.Prelude.{◌≡◌, ℕ, ◌==◌, List, [], ◌∷◌, ◌++◌, map, filter, Result, Ok, Err}
use Rattle.totem_names.specs.Names.{RingName}
use Rattle.totem_packets.specs.declared.message.Body.{Body}
use Rattle.totem_packets.specs.declared.message.Message.{Message}
use Rattle.totem_packets.specs.declared.packet.Packet.{Packet}
use Rattle.totem_ring.specs.declared.fault.RingFault.{RingFault}
use Rattle.totem_ring.specs.declared.moves.Act.{Act}
use Rattle.totem_ring.specs.declared.moves.RingMove.{RingMove}
use Rattle.totem_ring.specs.Rings.{Ring, new_ring}
use Rattle.totem_ring.specs.Steps.{Done, act_on}
use Rattle.totem_ring.specs.Worlds.{submitted}

pub record Own : Type 0 where
  pub state : Ring
  pub sent : List Packet  -- every packet that its acts sent
  pub up : List Message  -- all that its acts handed up, in order
  pub accepted : List Body  -- the bodies of its accepted submits, in order

-- a member of a new ring that has done nothing
abbrev pub own_start : RingName → List ℕ → ℕ → Own
own_start ring members p = record { state = new_ring p ring members; sent = []; up = []; accepted = [] }

-- a refused act changes nothing
abbrev pub own_after : Own → Act → Result Done RingFault → Own
own_after own act (Err fault) = own
own_after own act (Ok done) = record {
  state = done.state;
  sent = own.sent ++ map (λ s. s.1) done.packets;
  up = own.up ++ done.handed;
  accepted = own.accepted ++ submitted act;
}

abbrev pub with_act : Own → Act → Own
with_act own act = own_after own act (act_on own.state act)

abbrev pub with_acts : Own → List Act → Own
with_acts own [] = own
with_acts own (act ∷ acts) = with_acts (with_act own act) acts

-- the acts of this member in these moves, in their order
abbrev pub acts_of : ℕ → List RingMove → List Act
acts_of p moves = map (λ m. m.act) (filter (λ m. p == m.proc) moves)

-- what this member's own acts among these moves bring it to
abbrev pub own_of : RingName → List ℕ → List RingMove → ℕ → Own
own_of ring members moves p = with_acts (own_start ring members p) (acts_of p moves)

-- the state and the messages delivered to the node are those of `own`
pub record IsAt (own : Own) (state : Ring) (up : List Message) : Type 0 where
  pub state_is : state ≡ own.state
  pub up_is : up ≡ own.up
