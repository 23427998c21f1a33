use Rattle.totem_plain.proofs.Common.{IsFailureAt, NoneBelow}
use Rattle.totem_plain.proofs.misplaced_2_2.fails_before.Given as goal

abbrev pub invariant-loop-at : goal.invariant-loop-at
invariant-loop-at l = NoneBelow (λ k. IsFailureAt l.log k) l.at
