use Rattle.totem_plain.proofs.Common.{arith, none_more, denied, no_is}
use Rattle.totem_plain.proofs.one_log.delivers_before.Goals as goal

pub loop-at-preserved : goal.loop-at-preserved
loop-at-preserved c = none_more _ _ (denied _ c.if-delivers_in.false c.delivers_in.ensures) c.loop-at.invariant

pub returns : goal.returns
returns c = no_is (λ (k, lt, h). c.loop-at.invariant.none k (omega arith) h)
