use Rattle.totem_judge_run.proofs.Common.{refl, ◌∙◌, ap, slice_get_read, LogRecord}
use Rattle.totem_judge_run.proofs.EndsTogether.{ends_more}
use Rattle.totem_judge_run.proofs.ends_2_1.ends_of.Goals as goal

pub loop-log-preserved : goal.loop-log-preserved
loop-log-preserved c =
    let at = slice_get_read c.as_slice-logs.result.now _ _ c.log-item.result refl c.loop-log-test.true c.log-item.is in
    let entries = ap (λ (l : LogRecord). l.entries) c.log.view_is in
    rw c.in_ok-push.ensures.items
    (ends_more _ _ _ _ _ at (rw (c.as_slice-entries.ensures.value ∙ entries) at c.goes_on-goes_on.ensures) (rw (c.as_slice-entries.ensures.value ∙ entries) at c.last_change-last.ensures) c.loop-log.invariant)
