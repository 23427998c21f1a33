use Rattle.totem_plain.proofs.Common.{FailsInAt, NoneBelow}
use Rattle.totem_plain.proofs.one_log.failed_in.Given as goal

abbrev pub invariant-loop-at : goal.invariant-loop-at
invariant-loop-at l = NoneBelow (λ k. FailsInAt l.log l.ring k) l.at
