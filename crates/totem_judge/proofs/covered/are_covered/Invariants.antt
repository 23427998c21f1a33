use Rattle.totem_judge.specs.Covered.{AreCovered}
use Rattle.totem_judge.proofs.covered.are_covered.Given as goal

abbrev pub invariant-loop-index : goal.invariant-loop-index
invariant-loop-index l = AreCovered l.logs l.list l.index
