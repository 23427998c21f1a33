use Rattle.totem_plain.proofs.Common.{GoesFrom, NoneBelow}
use Rattle.totem_plain.proofs.atomicity_4.goes_at.Given as goal

abbrev pub invariant-loop-from : goal.invariant-loop-from
invariant-loop-from l = NoneBelow (λ k. GoesFrom l.log l.conf l.next l.at k) l.from
