use Rattle.std.proofs.Common.{◌≡◌, ◌++◌, take}
use Rattle.totem_net.specs.Wires.{kept}
use Rattle.totem_net.proofs.wire.keep.Given as goal

abbrev pub invariant-loop-copy : goal.invariant-loop-copy
invariant-loop-copy l = l.held.items ≡ l.initial.held.items ++ kept l.passed (take l.copy-index l.copies)
