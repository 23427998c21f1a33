use Rattle.totem_search.proofs.Searching.{NoneBeforeLog}
use Rattle.totem_search.proofs.search.least.Given as goal

abbrev pub invariant-loop-log : goal.invariant-loop-log
invariant-loop-log g l = NoneBeforeLog l.log-items (g.R.Relation.holds l.relation) l.log-index
