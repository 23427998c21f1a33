use Rattle.totem_cert.proofs.Common.{◌<◌, length, refl, ap, ◌∙◌, arith, slice_get_read, LogRecord, RunRecord}
use Rattle.totem_cert.proofs.CountSteps.{counts_few, counts_more, table_row, logs_short}
use Rattle.totem_cert.proofs.counts.count_logs.Goals as goal

pub count_log-requires-clause-few : goal.count_log-requires-clause-few
count_log-requires-clause-few c =
    let runs = ap (λ (r : RunRecord). r.logs) c.run.view_is in
    let run = (rw runs at c.as_slice-log-items.ensures.run) in
    let t : c.loop-k.k < length c.args.run.now.logs = rw (c.as_slice-log-items.ensures.value ∙ runs) at c.loop-k-test.true in
    counts_few c.args.run.now.logs c.args.table.now _ c.loop-k.counts c.loop-k.k (logs_short c.args.run.now.logs run) (let f = run.few in omega arith) c.loop-k.invariant.counts

pub count_log-requires-clause-long : goal.count_log-requires-clause-long
count_log-requires-clause-long c =
    let runs = ap (λ (r : RunRecord). r.logs) c.run.view_is in
    let at = rw (c.as_slice-log-items.ensures.value ∙ runs) at (slice_get_read c.as_slice-log-items.result.now _ c.loop-k.k c.log-item.result refl c.loop-k-test.true c.log-item.is) in
    (table_row c.args.run.now.logs c.args.table.now c.loop-k.k c.log-item.result c.as_slice.result.now c.as_slice-row.result.now c.index.result.now c.requires.table at
    (c.as_slice.ensures.value ∙ ap (λ (l : LogRecord). l.entries) c.log.view_is) c.index.ensures c.as_slice-row.ensures).1

pub loop-k-preserved : goal.loop-k-preserved
loop-k-preserved c =
    let runs = ap (λ (r : RunRecord). r.logs) c.run.view_is in
    let at = rw (c.as_slice-log-items.ensures.value ∙ runs) at (slice_get_read c.as_slice-log-items.result.now _ c.loop-k.k c.log-item.result refl c.loop-k-test.true c.log-item.is) in
    let entries = c.as_slice.ensures.value ∙ ap (λ (l : LogRecord). l.entries) c.log.view_is in
    let row = table_row c.args.run.now.logs c.args.table.now c.loop-k.k c.log-item.result c.as_slice.result.now c.as_slice-row.result.now c.index.result.now c.requires.table at entries c.index.ensures c.as_slice-row.ensures in
    let t : c.loop-k.k < length c.args.run.now.logs = rw (c.as_slice-log-items.ensures.value ∙ runs) at c.loop-k-test.true in
    record {
      within = omega arith;
      counts = counts_more c.args.run.now.logs c.args.table.now c.loop-k.counts c.count_log.new.counts c.loop-k.k c.len-messages.result c.log-item.result c.as_slice.result.now c.as_slice-row.result.now
          c.loop-k.invariant.counts at (c.len-messages.ensures ∙ c.args.table.now.messages.ok.0) entries row.0 c.count_log.ensures;
    }
