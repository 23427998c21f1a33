-- Which node has its turn at which tick (docs/PROTOCOL.md, "The network").
use Rattle.std.specs.Prelude.{ℕ, ◌+◌, ◌-◌, ◌/◌, ◌%◌, ◌==◌, Option, Some, None, nat_lt, if◌then◌else◌}
use Rattle.totem_names.specs.declared.message.Service.TheVariants.{Agreed, Safe}
use Rattle.totem_net.specs.declared.turn.Turn.{Turn}

-- how many of a run's ticks have passed
pub record Count : Type 0 where
  pub nodes : ℕ
  pub ticks : ℕ
  pub passed : ℕ

-- the n-th turn, counted from 0: nodes take turns in ascending order, again and again, and so do the two services
abbrev pub nth_turn : ℕ → ℕ → Turn
nth_turn nodes n = record {
  node = n % nodes + 1;
  service = (if n % 2 == 0 then Agreed else Safe);
}

-- the turn at a tick, counted from 1: every eighth tick brings one
abbrev pub turn_at : ℕ → ℕ → Option Turn
turn_at nodes tick = (if tick % 8 == 0 then Some (nth_turn nodes (tick / 8 - 1)) else None)

-- the count after the next tick, or the same if the ticks are used up
abbrev pub ticked : Count → Count
ticked count =
    (if nat_lt count.passed count.ticks then record count { passed = count.passed + 1 } else count)

-- the turn that the next tick brings
abbrev pub next_turn : Count → Option Turn
next_turn count =
    (if nat_lt count.passed count.ticks then turn_at count.nodes (count.passed + 1) else None)
