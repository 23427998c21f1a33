use Rattle.totem_plain.proofs.Common.{arith, none_more, denied, no_is}
use Rattle.totem_plain.proofs.one_log.delivered_by.Goals as goal

pub loop-at-preserved : goal.loop-at-preserved
loop-at-preserved c = none_more _ _ (denied _ c.if-delivers_at.false c.delivers_at.ensures) c.loop-at.invariant

pub returns : goal.returns
returns c = no_is (λ (k, lt, h). c.loop-at.invariant.none k (omega arith) h)
