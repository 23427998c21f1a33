use Rattle.totem_judge.specs.Covered.{AreRisingTo}
use Rattle.totem_judge.proofs.covered.rise.Given as goal

abbrev pub invariant-loop-at : goal.invariant-loop-at
invariant-loop-at l = AreRisingTo l.list l.at
