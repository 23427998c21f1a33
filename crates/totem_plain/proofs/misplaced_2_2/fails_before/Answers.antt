use Rattle.totem_plain.proofs.Common.{arith, none_more, denied, no_is}
use Rattle.totem_plain.proofs.misplaced_2_2.fails_before.Goals as goal

pub loop-at-preserved : goal.loop-at-preserved
loop-at-preserved c = none_more _ _ (denied _ c.if-is_failure.false c.is_failure.ensures) c.loop-at.invariant

pub returns : goal.returns
returns c = no_is (λ (k, x, lt, h). c.loop-at.invariant.none k (omega arith) (x, h))
