use Rattle.totem_walk.proofs.Common.{refl, sym, ◌∙◌, ap, slice_get_read, RunRecord, log_of, log_of_at}
use Rattle.totem_evs.specs.LogRecord.{LogRecord}
use Rattle.totem_walk.proofs.Finding.{none_of_more, none_of, is_other, is_same}
use Rattle.totem_walk.proofs.reading.entries_of.Goals as goal

pub loop-log-preserved : goal.loop-log-preserved
loop-log-preserved c =
    let at = slice_get_read c.as_slice-log-items.result.now _ _ c.log-item.result refl c.loop-log-test.true c.log-item.is in
    let procs = ap (λ (l : LogRecord). l.proc) c.log.view_is in
    none_of_more _ _ _ _ at (is_other _ _ _ procs c.if-eq.ensures) c.loop-log.invariant

pub returns-then-eq-clause-entries : goal.returns-then-eq-clause-entries
returns-then-eq-clause-entries c =
    let runs = ap (λ (r : RunRecord). r.logs) c.run.view_is in
    let at = slice_get_read c.as_slice-log-items.result.now _ _ c.log-item.result refl c.loop-log-test.true c.log-item.is in
    let entries = ap (λ (l : LogRecord). l.entries) c.log.view_is in
    let procs = ap (λ (l : LogRecord). l.proc) c.log.view_is in
    let here = c.as_slice.ensures.value ∙ entries ∙ sym (log_of_at c.args.run.now.logs _ _ (rw runs at c.as_slice-log-items.ensures.run.rising) (rw (c.as_slice-log-items.ensures.value ∙ runs) at at)) in
    here ∙ ap (λ p. log_of c.args.run.now.logs p) (is_same _ _ _ procs c.if-eq.ensures)

pub returns-clause-entries : goal.returns-clause-entries
returns-clause-entries c =
    let runs = ap (λ (r : RunRecord). r.logs) c.run.view_is in
    rw (← (c.as_slice-log-items.ensures.value ∙ runs)) (none_of _ _ _ c.loop-log-test.false c.loop-log.invariant)
