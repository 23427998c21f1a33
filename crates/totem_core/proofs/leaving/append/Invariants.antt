use Rattle.std.proofs.Common.{◌≡◌, ◌++◌}
use Rattle.totem_core.proofs.leaving.append.Given as goal

abbrev pub invariant-loop-entry : goal.invariant-loop-entry
invariant-loop-entry l = l.entries.items ≡ l.initial.entries.items ++ l.yielded
