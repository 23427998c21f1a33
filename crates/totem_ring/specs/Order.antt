-- The one order of a ring (docs/PROTOCOL.md, "One order").
use Rattle.std.specs.Prelude.{◌≡◌, ℕ, ◌+◌, ◌==◌, ◌⊎◌, List, ◌++◌, map, filter, slice_get, Contains, Some}
use Rattle.totem_names.specs.Names.{RingName}
use Rattle.totem_packets.specs.declared.message.Body.{Body}
use Rattle.totem_packets.specs.declared.message.Message.{Message}
use Rattle.totem_ring.specs.declared.moves.RingMove.{RingMove}
use Rattle.totem_ring.specs.Worlds.{World, start, run, IsSchedule}

abbrev pub IsPrefixOf : {X : Type 0} → List X → List X → Type 0
IsPrefixOf {X} xs ys = (rest : List X) × (xs ++ rest ≡ ys)

-- the bodies that this process sends in these messages
abbrev pub bodies_of : ℕ → List Message → List Body
bodies_of p ms = map (λ m. m.body) (filter (λ m. m.sender == p) ms)

pub record IsOneOrder (w : World) : Type 0 where
  -- of any two members' lists one is a prefix of the other
  pub one_prefix : (p q : ℕ) → Contains w.members p → Contains w.members q → IsPrefixOf (w.up p) (w.up q) ⊎ IsPrefixOf (w.up q) (w.up p)
  -- each list has the numbers from 1 on, each once
  pub numbers : (p : ℕ) → Contains w.members p → (k : ℕ) (m : Message) → slice_get (w.up p) k ≡ Some m → m.number ≡ k + 1
  -- a sender's bodies in a list are a prefix of its accepted submits; a process that is no member has none
  pub bodies : (p q : ℕ) → Contains w.members p → IsPrefixOf (bodies_of q (w.up p)) (w.accepted q)

-- for every ring, every list of members and every schedule
abbrev pub OneOrder : Type 0
OneOrder = (ring : RingName) (members : List ℕ) (moves : List RingMove) → IsSchedule (start ring members) moves → IsOneOrder (run (start ring members) moves)
