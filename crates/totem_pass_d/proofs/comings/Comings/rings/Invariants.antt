use Rattle.std.proofs.Common.{◌≡◌, ◌++◌}
use Rattle.totem_pass_d.proofs.comings.Comings.rings.Given as goal

abbrev pub invariant-loop-ring : goal.invariant-loop-ring
invariant-loop-ring l = l.list.items ++ l.ring-iterator ≡ l.self.rings.keys
