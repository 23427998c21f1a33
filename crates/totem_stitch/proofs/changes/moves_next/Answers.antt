use Rattle.totem_stitch.proofs.Common.{refl, arith, slice_get_read, none_between_more}
use Rattle.totem_stitch.proofs.NextChanges.{none_next_at_end, regular_next, moves_here}
use Rattle.totem_stitch.proofs.changes.moves_next.Goals as goal

pub returns-in-Regular-clause-none : goal.returns-in-Regular-clause-none
returns-in-Regular-clause-none c =
    let at = slice_get_read c.args.log.now _ c.loop-next_at.next_at c.index-log-next_at.result refl c.loop-next_at-test.true c.index-log-next_at.is in
    regular_next c.args.log.now _ _ _ _ _ (rw c.in-Conf.is at at) c.in-Regular.is (omega (arith, c.loop-next_at.auto.next_at)) c.loop-next_at.invariant

pub returns-in-Transitional-clause-found : goal.returns-in-Transitional-clause-found
returns-in-Transitional-clause-found c =
    let at = slice_get_read c.args.log.now _ c.loop-next_at.next_at c.index-log-next_at.result refl c.loop-next_at-test.true c.index-log-next_at.is in
    moves_here c.args.log.now _ _ _ _ _ _ (rw c.in-Conf.is at at) c.in-Transitional.is (omega (arith, c.loop-next_at.auto.next_at)) c.loop-next_at.invariant

pub loop-next_at-preserved : goal.loop-next_at-preserved
loop-next_at-preserved c =
    none_between_more c.args.log.now c.args.at _ _ (slice_get_read c.args.log.now _ c.loop-next_at.next_at c.index-log-next_at.result refl c.loop-next_at-test.true c.index-log-next_at.is)
    c.in_default.not-Conf c.loop-next_at.invariant

pub returns-clause-none : goal.returns-clause-none
returns-clause-none c = none_next_at_end c.args.log.now c.args.at _ c.loop-next_at-test.false c.loop-next_at.invariant
