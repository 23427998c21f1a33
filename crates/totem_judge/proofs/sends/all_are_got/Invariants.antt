use Rattle.totem_judge.specs.Lists.{EachBelow, IsGotAt}
use Rattle.totem_judge.proofs.sends.all_are_got.Given as goal

abbrev pub invariant-loop-index : goal.invariant-loop-index
invariant-loop-index l = EachBelow (IsGotAt l.gathered l.logs) l.index
