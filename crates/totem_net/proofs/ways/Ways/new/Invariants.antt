use Rattle.std.proofs.Common.{◌≡◌, [], replicate}
use Rattle.totem_net.proofs.ways.Ways.new.Given as goal

abbrev pub invariant-nodes : goal.invariant-nodes
invariant-nodes l = l.wires.items ≡ replicate l.counter []
