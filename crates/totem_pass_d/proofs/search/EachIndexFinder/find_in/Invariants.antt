use Rattle.totem_pass_d.specs.Search.{IsInside, NoneBelow}
use Rattle.totem_pass_d.proofs.search.EachIndexFinder.find_in.Given as goal

abbrev pub invariant-loop-at : goal.invariant-loop-at
invariant-loop-at g l = NoneBelow IsInside (g.R.Relation.holds l.self.relation.now) l.stay l.at
