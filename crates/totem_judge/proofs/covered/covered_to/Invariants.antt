use Rattle.totem_judge.specs.Covered.{AreCoveredTo}
use Rattle.totem_judge.proofs.covered.covered_to.Given as goal

abbrev pub invariant-loop-gathered : goal.invariant-loop-gathered
invariant-loop-gathered l = AreCoveredTo l.list l.ends

abbrev pub invariant-loop-stay : goal.invariant-loop-stay
invariant-loop-stay l = AreCoveredTo l.list l.ends
