use Rattle.totem_names.proofs.Rises.{RisesTo}
use Rattle.totem_names.proofs.lists.first_fall.Given as goal

abbrev pub invariant-loop-at : goal.invariant-loop-at
invariant-loop-at g l = RisesTo g.T.Keyed.key_of l.list l.at l.last
