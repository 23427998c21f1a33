use Rattle.totem_plain.proofs.Common.{Delivers, NoneBelow}
use Rattle.totem_plain.proofs.one_log.delivered_by.Given as goal

abbrev pub invariant-loop-at : goal.invariant-loop-at
invariant-loop-at l = NoneBelow (λ k. Delivers l.log k l.message l.conf) l.at
