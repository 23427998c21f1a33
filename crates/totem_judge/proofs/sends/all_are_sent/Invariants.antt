use Rattle.totem_judge.specs.Lists.{EachBelow, IsSentAt}
use Rattle.totem_judge.proofs.sends.all_are_sent.Given as goal

abbrev pub invariant-loop-index : goal.invariant-loop-index
invariant-loop-index l = EachBelow (IsSentAt l.gathered l.logs) l.index
