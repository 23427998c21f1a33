use Rattle.totem_judge.proofs.Common.{AgreesAt, EachBelow}
use Rattle.totem_judge.proofs.judging.all_agree.Given as goal

abbrev pub invariant-loop-one : goal.invariant-loop-one
invariant-loop-one l = EachBelow (AgreesAt l.list) l.one-index
