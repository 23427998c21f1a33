-- Members that leave an old ring together (docs/PROTOCOL.md, "The finish").
use Rattle.std.specs.Prelude.{◌≡◌, ℕ, ◌≤◌, ◌&&◌, ◌++◌, List, map, filter, nat_lt, nat_le}
use Rattle.totem_names.specs.declared.conf.ConfId.TheVariants.{Regular}
use Rattle.totem_packets.specs.declared.message.Message as message
use Rattle.totem_ring.specs.Rings.{Ring, Held, aru_of}
use Rattle.totem_ring.specs.Invariant.{RisesFrom}
use Rattle.totem_recover.specs.Exchange.{Leaving}
use Rattle.totem_recover.specs.Finish.{deliveries, finish}

-- the messages held above one number and up to another
abbrev pub messages_between : ℕ → ℕ → Held → List message.Message
messages_between low high held = map (λ e. e.1) (filter (λ e. nat_lt low e.0 && nat_le e.0 high) held)

-- Two members leave the same ring for the same new ring: they know the same about it, they hold the same messages after the exchange,
-- and the first has delivered no more to its node than the second, which holds all that it delivered, and reported it.
pub record LeaveTogether (r s : Leaving) (a b : Ring) : Type 0 where
  pub ring : r.ring ≡ s.ring
  pub members : r.members ≡ s.members
  pub transitional : r.transitional ≡ s.transitional
  pub high : r.high ≡ s.high
  pub obliged : r.obliged ≡ s.obliged
  pub old : a.ring ≡ b.ring
  pub held : a.held ≡ b.held
  pub rises : RisesFrom 0 b.held
  pub behind : a.handed ≤ b.handed
  pub whole : b.handed ≤ aru_of b.held
  pub reported : b.handed ≤ s.high

-- The first delivers in the old configuration what only the second had delivered; from there on both write the same.
abbrev pub LeavesAlike : Type 0
LeavesAlike = (r s : Leaving) (a b : Ring) → LeaveTogether r s a b
    → finish r a ≡ deliveries (Regular b.ring) (messages_between a.handed b.handed b.held) ++ finish s b
