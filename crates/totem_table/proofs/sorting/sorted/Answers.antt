use Rattle.totem_table.proofs.Common.{[], refl, ap, ◌∙◌, arith, slice_get_read, LogRecord, RunRecord, along_more, RowsName}
use Rattle.totem_table.proofs.NameLists.{lists_at, along_whole, rising}
use Rattle.totem_table.proofs.sorting.sorted.Goals as goal

pub row_of-requires-clause-messages : goal.row_of-requires-clause-messages
row_of-requires-clause-messages c =
    let at = slice_get_read c.as_slice-logs.result.now _ c.loop-log.log-index c.log-item.result refl c.loop-log-test.true c.log-item.is in
    let entries = c.as_slice.ensures.value ∙ ap (λ (l : LogRecord). l.entries) c.log.view_is in
    rw (entries, c.deref.ensures.value) (lists_at _ _ _ _ c.loop-log.log-index c.log-item.result at c.in_ok-messages.ensures)

pub row_of-requires-clause-confs : goal.row_of-requires-clause-confs
row_of-requires-clause-confs c =
    let at = slice_get_read c.as_slice-logs.result.now _ c.loop-log.log-index c.log-item.result refl c.loop-log-test.true c.log-item.is in
    let entries = c.as_slice.ensures.value ∙ ap (λ (l : LogRecord). l.entries) c.log.view_is in
    rw (entries, c.deref-in-loop-log.ensures.value) (lists_at _ _ _ _ c.loop-log.log-index c.log-item.result at c.in_ok-confs.ensures)

pub loop-log-preserved : goal.loop-log-preserved
loop-log-preserved c =
    let at = slice_get_read c.as_slice-logs.result.now _ c.loop-log.log-index c.log-item.result refl c.loop-log-test.true c.log-item.is in
    let entries = c.as_slice.ensures.value ∙ ap (λ (l : LogRecord). l.entries) c.log.view_is in
    rw c.in_ok-push.ensures.items (along_more _ _ c.loop-log.rows.items c.loop-log.log-index c.log-item.result _ at (rw (entries, c.deref.ensures.value, c.deref-in-loop-log.ensures.value) at c.in_ok-row_of.ensures) c.loop-log.invariant)

pub returns : goal.returns
returns c =
    let runs = c.as_slice-logs.ensures.value ∙ ap (λ (r : RunRecord). r.logs) c.run.view_is in
    let whole = along_whole _ _ _ c.loop-log.log-index [] (let a = c.loop-log-test.false in let b = c.loop-log.auto.log-index-end in omega arith) c.loop-log.invariant in
    record {
      messages = rising _ _ c.in_ok-messages.ensures.sorted;
      confs = rising _ _ c.in_ok-confs.ensures.sorted;
      rows = rw runs at (let rows : RowsName c.in_ok-messages.messages.items c.in_ok-confs.confs.items c.as_slice-logs.result.now c.loop-log.rows.items = record { long = whole.0; each = whole.1 } in rows);
      kinds = rw runs at c.in_ok-kinds_of_all.ensures;
    }
