-- What can happen on one ring, whatever the network does (docs/PROTOCOL.md, "One order").
use Rattle.std.specs.Prelude.{ℕ, ◌==◌, List, [], ◌∷◌, ◌++◌, map, Contains, if◌then◌else◌, Result, Ok, Err}
use Rattle.totem_names.specs.Names.{RingName}
use Rattle.totem_packets.specs.declared.message.Body.{Body}
use Rattle.totem_packets.specs.declared.message.Message.{Message}
use Rattle.totem_packets.specs.declared.packet.Packet.{Packet}
use Rattle.totem_packets.specs.declared.packet.Packet.TheVariants.{Message as AMessage, Token as AToken}
use Rattle.totem_ring.specs.declared.fault.RingFault.{RingFault}
use Rattle.totem_ring.specs.declared.moves.Act.{Act}
use Rattle.totem_ring.specs.declared.moves.Act.TheVariants.{Submit as DoesSubmit, Message as GetsMessage, Token as GetsToken, Resend as DoesResend}
use Rattle.totem_ring.specs.declared.moves.RingMove.{RingMove}
use Rattle.totem_ring.specs.Rings.{Ring, new_ring, first_token}
use Rattle.totem_ring.specs.Steps.{Done, act_on}

pub record World : Type 0 where
  pub members : List ℕ
  pub state : ℕ → Ring  -- the ring state of each member
  pub sent : List Packet  -- every packet ever sent
  pub up : ℕ → List Message  -- all that each member delivered to its node, in order
  pub accepted : ℕ → List Body  -- the bodies of each member's accepted submits, in order

abbrev pub start : RingName → List ℕ → World
start ring members = record {
  members = members;
  state = λ p. new_ring p ring members;
  sent = AToken (first_token ring) ∷ [];
  up = λ p. [];
  accepted = λ p. [];
}

-- the function with another value at p
abbrev pub with_at : {X : Type 0} → (ℕ → X) → ℕ → X → ℕ → X
with_at f p x q = if q == p then x else f q

abbrev pub submitted : Act → List Body
submitted (DoesSubmit body) = body ∷ []
submitted (GetsMessage m) = []
submitted (GetsToken t) = []
submitted DoesResend = []

-- a refused step changes nothing; any other adds its packets, and removes none
abbrev pub world_after : World → ℕ → Act → Result Done RingFault → World
world_after w p act (Err fault) = w
world_after w p act (Ok done) = record {
  members = w.members;
  state = with_at w.state p done.state;
  sent = w.sent ++ map (λ s. s.1) done.packets;
  up = with_at w.up p (w.up p ++ done.handed);
  accepted = with_at w.accepted p (w.accepted p ++ submitted act);
}

abbrev pub happens : World → RingMove → World
happens w move = world_after w move.proc move.act (act_on (w.state move.proc) move.act)

-- only sent packets arrive: late, repeated, in any order, or never
abbrev pub MayCome : World → Act → Type 0
MayCome w (GetsMessage m) = Contains w.sent (AMessage m)
MayCome w (GetsToken t) = Contains w.sent (AToken t)
MayCome w (DoesSubmit body) = Unit {0}
MayCome w DoesResend = Unit {0}

-- a schedule: a member's moves, each of which may happen when its turn comes
abbrev pub IsSchedule : World → List RingMove → Type 0
IsSchedule w [] = Unit {0}
IsSchedule w (move ∷ moves) = Contains w.members move.proc × MayCome w move.act × IsSchedule (happens w move) moves

abbrev pub run : World → List RingMove → World
run w [] = w
run w (move ∷ moves) = run (happens w move) moves
