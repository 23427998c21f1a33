use Rattle.totem_judge_run.proofs.Common.{refl, arith, slice_get_read}
use Rattle.totem_judge_run.proofs.LogEnds.{none_more, stands_here, changes_nowhere}
use Rattle.totem_judge_run.proofs.ends_2_1.last_change.Goals as goal

pub returns-in-Conf : goal.returns-in-Conf
returns-in-Conf c =
    let at = slice_get_read c.args.log.now _ _ c.index-log-at.result refl (omega (arith, c.loop-back-test.true)) c.index-log-at.is in
    stands_here _ _ _ _ _ c.loop-back-test.true at c.in-Conf.is c.loop-back.invariant

pub loop-back-preserved : goal.loop-back-preserved
loop-back-preserved c =
    let at = slice_get_read c.args.log.now _ _ c.index-log-at.result refl (omega (arith, c.loop-back-test.true)) c.index-log-at.is in
    none_more _ _ _ c.loop-back-test.true at c.in_default.not-Conf c.loop-back.invariant

pub returns : goal.returns
returns c = changes_nowhere _ _ c.loop-back-test.false c.loop-back.invariant
