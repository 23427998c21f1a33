use Rattle.std.proofs.Common.{◌≡◌, ◌++◌, take}
use Rattle.totem_net.specs.Wires.{due}
use Rattle.totem_net.proofs.wire.hand_on.Given as goal

abbrev pub invariant-loop-copy : goal.invariant-loop-copy
invariant-loop-copy l = l.out.items ≡ l.initial.out.items ++ due l.passed (take l.copy-index l.copies)
