use Rattle.totem_threads.proofs.Common.{◌≡◌, node_numbers}
use Rattle.totem_threads.proofs.firsts.first_members.Given as goal

abbrev pub invariant-nodes : goal.invariant-nodes
invariant-nodes l = l.list.items ≡ node_numbers l.number
