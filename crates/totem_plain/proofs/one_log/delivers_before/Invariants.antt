use Rattle.totem_plain.proofs.Common.{DeliversIn, NoneBelow}
use Rattle.totem_plain.proofs.one_log.delivers_before.Given as goal

abbrev pub invariant-loop-at : goal.invariant-loop-at
invariant-loop-at l = NoneBelow (λ k. DeliversIn l.log l.ring l.message k) l.at
