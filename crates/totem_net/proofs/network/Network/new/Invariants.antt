use Rattle.std.proofs.Common.{◌≡◌, map}
use Rattle.totem_net.specs.Nodes.{node_numbers}
use Rattle.totem_net.proofs.network.Network.new.Given as goal

abbrev pub invariant-nodes : goal.invariant-nodes
invariant-nodes l = map (λ e. e.node) l.ends.items ≡ node_numbers l.number
