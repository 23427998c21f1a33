use Rattle.std.proofs.Common.{◌∙◌, ap}
use Rattle.totem_evs.specs.LogRecord.{LogRecord}
use Rattle.totem_explain.proofs.Sizing.{log_added, log_grown}
use Rattle.totem_explain.proofs.survey.add_logs.Goals as goal

pub loop-log-preserved : goal.loop-log-preserved
loop-log-preserved c =
    let entries = c.as_slice.ensures.value ∙ ap (λ (l : LogRecord). l.entries) c.log.view_is in
    let added = c.in_ok-add_log.ensures in
    record {
      sum = log_added _ _ _ c.log-item.result _ _ _ c.loop-log-test.true c.log-item.is entries c.loop-log.invariant.sum added;
      within = log_grown _ _ _ _ (rw c.as_slice.ensures.value c.as_slice.ensures.entries.few) added c.loop-log.invariant.within;
    }
