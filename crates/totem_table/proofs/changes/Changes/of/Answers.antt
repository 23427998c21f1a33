use Rattle.totem_table.proofs.Common.{refl, ap, ◌∙◌, slice_get_read, LogRecord, along_more}
use Rattle.totem_table.proofs.changes.Changes.of.Goals as goal

pub loop-log-preserved : goal.loop-log-preserved
loop-log-preserved c =
    let at = slice_get_read c.as_slice-logs.result.now _ c.loop-log.log-index c.log-item.result refl c.loop-log-test.true c.log-item.is in
    let entries = ap (λ (l : LogRecord). l.entries) c.log.view_is in
    rw c.in_ok-push.ensures.items
    (along_more _ c.as_slice-logs.result.now c.loop-log.rows.items c.loop-log.log-index c.log-item.result _ at (rw (c.as_slice.ensures.value ∙ entries) at c.in_ok-changes_in.ensures) c.loop-log.invariant)
