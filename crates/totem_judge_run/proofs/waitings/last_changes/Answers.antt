use Rattle.std.proofs.Common.{arith}
use Rattle.totem_judge_run.proofs.Common.{refl, sym, ◌∙◌, ap, slice_get_read, LogRecord, RunRecord, log_of_at}
use Rattle.totem_judge_run.proofs.Ending.{ends_more}
use Rattle.totem_judge_run.proofs.waitings.last_changes.Goals as goal

pub standing_change-requires : goal.standing_change-requires
standing_change-requires c =
    let runs = ap (λ (r : RunRecord). r.logs) c.run.view_is in
    let at = slice_get_read c.as_slice-logs.result.now _ _ c.log-item.result refl c.loop-log-test.true c.log-item.is in
    let entries = ap (λ (l : LogRecord). l.entries) c.log.view_is in
    rw (c.as_slice.ensures.value ∙ entries ∙ sym (log_of_at c.args.run.now.logs _ _ (rw runs at c.as_slice-logs.ensures.run.rising) (rw (c.as_slice-logs.ensures.value ∙ runs) at at))) (c.requires.placed _)

pub loop-log-preserved : goal.loop-log-preserved
loop-log-preserved c = grind (arith, slice_get_read, ends_more)
