use Rattle.totem_table.proofs.Common.{refl, sym, ◌∙◌, ap, slice_get_read, LogRecord, RunRecord, log_of, log_of_at}
use Rattle.totem_table.proofs.Entering.{before_more, before_end}
use Rattle.totem_table.proofs.register.enter_run.Goals as goal

pub loop-log-preserved : goal.loop-log-preserved
loop-log-preserved g c =
    let runs = ap (λ (r : RunRecord). r.logs) c.run.view_is in
    let at = slice_get_read c.as_slice-log-items.result.now _ c.loop-log.log-index c.log-item.result refl c.loop-log-test.true c.log-item.is in
    let procs = ap (λ (l : LogRecord). l.proc) c.log.view_is in
    let entries = ap (λ (l : LogRecord). l.entries) c.log.view_is in
    record {
      entered = before_more _ _ _ _ _ at c.in_ok-enter_log.ensures.kept (rw (c.as_slice.ensures.value ∙ entries, procs) at c.in_ok-enter_log.ensures.entered) c.loop-log.invariant.entered;
      sound = c.in_ok-enter_log.ensures.sound.each c.args.run.now.logs
          (c.as_slice.ensures.value ∙ entries ∙ sym (log_of_at c.args.run.now.logs _ _ (rw runs at c.as_slice-log-items.ensures.run.rising) (rw (c.as_slice-log-items.ensures.value ∙ runs) at at)) ∙ ap (λ p. log_of c.args.run.now.logs p) (sym procs))
          c.loop-log.invariant.sound;
    }

pub returns-clause-entered : goal.returns-clause-entered
returns-clause-entered g c =
    let runs = ap (λ (r : RunRecord). r.logs) c.run.view_is in
    rw (← (c.as_slice-log-items.ensures.value ∙ runs)) (before_end _ _ _ c.loop-log-test.false c.loop-log.invariant.entered)
