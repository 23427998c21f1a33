use Rattle.totem_judge.specs.Ends.{AreEnds}
use Rattle.totem_judge.proofs.ends.ends_of.Given as goal

abbrev pub invariant-loop-stay : goal.invariant-loop-stay
invariant-loop-stay l = AreEnds l.logs l.stays l.stay-index l.ends.logs l.ends.ended l.ends.«open»
