use Rattle.totem_plain.proofs.Common.{arith, none_more, denied, no_is}
use Rattle.totem_plain.proofs.atomicity_4.goes_at.Goals as goal

pub loop-from-preserved : goal.loop-from-preserved
loop-from-preserved c = none_more _ _ (denied _ c.if-goes_from.false c.goes_from.ensures) c.loop-from.invariant

pub returns : goal.returns
returns c = no_is (λ (i, from, next, to). c.loop-from.invariant.none i (omega (arith, next.later)) (from, next, to))
