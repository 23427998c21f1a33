use Rattle.totem_stitch.proofs.Common.{refl, ◌∙◌, ap, slice_get_read, RunRecord}
use Rattle.totem_evs.specs.LogRecord.{LogRecord}
use Rattle.totem_stitch.proofs.Tabled.{no_logs_yet, one_more_log, is_stitch}
use Rattle.totem_stitch.proofs.stitch.Stitch.build.Goals as goal

pub loop-log-init : goal.loop-log-init
loop-log-init c = no_logs_yet _ _ c.new-tables.ensures.empty

pub loop-log-preserved : goal.loop-log-preserved
loop-log-preserved c =
    let at = slice_get_read c.as_slice-log-items.result.now _ c.loop-log.log-index c.log-item.result refl c.loop-log-test.true c.log-item.is in
    let procs = ap (λ (l : LogRecord). l.proc) c.log.view_is in
    let entries = c.as_slice.ensures.value ∙ ap (λ (l : LogRecord). l.entries) c.log.view_is in
    one_more_log c.loop-log.tables c.insert.new.self c.as_slice-log-items.result.now c.loop-log.log-index c.log-item.result c.in_ok-table.table at
    (rw entries at c.in_ok-table.ensures) (rw procs at c.in_ok-insert.ensures.updates) c.loop-log.invariant

pub returns : goal.returns
returns c =
    let same = c.as_slice-log-items.ensures.value ∙ ap (λ (r : RunRecord). r.logs) c.run.view_is in
    is_stitch _ c.args.run.now.logs c.loop-log.log-index (rw (ap (λ (r : RunRecord). r.logs) c.run.view_is) at c.as_slice-log-items.ensures.run.rising) (rw same at c.loop-log-test.false) (rw same at c.loop-log.invariant)
