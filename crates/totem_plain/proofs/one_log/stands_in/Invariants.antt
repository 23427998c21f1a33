use Rattle.totem_plain.proofs.Common.{IsLastChangeBefore, NoneBelow}
use Rattle.totem_plain.proofs.one_log.stands_in.Given as goal

abbrev pub invariant-loop-at : goal.invariant-loop-at
invariant-loop-at l = NoneBelow (λ k. IsLastChangeBefore l.log l.conf l.end k) l.at
