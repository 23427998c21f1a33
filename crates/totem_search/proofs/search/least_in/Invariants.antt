use Rattle.totem_search.specs.Search.{NoneInLog}
use Rattle.totem_search.proofs.search.least_in.Given as goal

abbrev pub invariant-loop-at : goal.invariant-loop-at
invariant-loop-at g l = NoneInLog (g.R.Relation.holds l.relation) l.proc l.at
