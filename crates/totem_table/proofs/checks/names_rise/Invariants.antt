use Rattle.totem_table.proofs.Checking.{RisesTo}
use Rattle.totem_table.proofs.checks.names_rise.Given as goal

abbrev pub invariant-loop-at : goal.invariant-loop-at
invariant-loop-at g l = RisesTo g.N.Ord.cmp l.names l.at
