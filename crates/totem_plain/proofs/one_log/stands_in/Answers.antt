use Rattle.totem_plain.proofs.Common.{arith, none_more, denied, no_is}
use Rattle.totem_plain.proofs.one_log.stands_in.Goals as goal

pub loop-at-preserved : goal.loop-at-preserved
loop-at-preserved c = none_more _ _ (denied _ c.if-is_last_change_before.false c.is_last_change_before.ensures) c.loop-at.invariant

pub returns : goal.returns
returns c = no_is (λ h. c.loop-at.invariant.none h.from (omega (arith, h.before)) (h.before, h.change, h.none_between))
