use Rattle.totem_judge_run.proofs.Common.{refl, slice_get_read, none_between_more}
use Rattle.totem_judge_run.proofs.standing.walk_to_change.Goals as goal

pub loop-next-preserved : goal.loop-next-preserved
loop-next-preserved c =
    none_between_more c.args.log.now c.args.at _ _ (slice_get_read c.args.log.now _ c.loop-next.next c.index-log-next.result refl c.loop-next-test.true c.index-log-next.is)
    c.in_default.not-Conf c.loop-next.invariant
