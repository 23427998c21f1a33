use Rattle.totem_plain.proofs.Common.{slice_get_within, none_more, denied, none_yet, no_is}
use Rattle.totem_plain.proofs.one_log.failed_in.Goals as goal

pub loop-at-preserved : goal.loop-at-preserved
loop-at-preserved c = none_more _ _ (denied _ c.if-fails_at.false c.fails_at.ensures) c.loop-at.invariant

pub returns : goal.returns
returns c = no_is (λ (k, d, at, inside). none_yet _ _ c.loop-at.invariant _ c.loop-at-test.false (λ k (d, at, inside). slice_get_within _ k _ at) k (d, at, inside))
