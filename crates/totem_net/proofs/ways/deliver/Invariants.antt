use Rattle.std.proofs.Common.{◌≡◌, ◌++◌}
use Rattle.totem_net.specs.Ways.{deliveries}
use Rattle.totem_net.proofs.ways.deliver.Given as goal

abbrev pub invariant-loop-packet : goal.invariant-loop-packet
invariant-loop-packet l = l.out.items ≡ l.initial.out.items ++ deliveries l.to l.yielded
