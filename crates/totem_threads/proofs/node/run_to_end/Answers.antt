use Rattle.totem_net.specs.Nodes.{node_numbers}
use Rattle.totem_threads.proofs.FirstLives.{ranks_first}
use Rattle.totem_threads.proofs.node.run_to_end.Goals as goal

pub keep_book-requires-clause-first : goal.keep_book-requires-clause-first
keep_book-requires-clause-first g c κs within = rw c.in_ok-members.ensures (ranks_first (node_numbers c.args.nodes))
