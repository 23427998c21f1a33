use Rattle.std.proofs.Common.{◌≡◌, ◌++◌}
use Rattle.totem_ring.proofs.held.Held.try_clone.Given as goal

abbrev pub invariant-loop-number : goal.invariant-loop-number
invariant-loop-number l = l.messages.entries ++ l.number-iterator ≡ l.self-inside.messages.entries
