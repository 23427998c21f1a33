use Rattle.totem_table.proofs.Common.{refl, sym, ◌∙◌, ap, slice_get_read, LogRecord, RunRecord, log_of, log_of_at}
use Rattle.totem_table.proofs.Entering.{before_more, before_end}
use Rattle.totem_table.proofs.change_register.enter_changes.Goals as goal

pub loop-k-preserved : goal.loop-k-preserved
loop-k-preserved g c =
    let runs = ap (λ (r : RunRecord). r.logs) c.run.view_is in
    let at = rw (c.as_slice-log-items.ensures.value ∙ runs) at (slice_get_read c.as_slice-log-items.result.now _ c.loop-k.k c.log-item.result refl c.loop-k-test.true c.log-item.is) in
    let procs = ap (λ (l : LogRecord). l.proc) c.log.view_is in
    let entries = c.as_slice.ensures.value ∙ ap (λ (l : LogRecord). l.entries) c.log.view_is in
    let here = c.in_ok-enter_changes_of.ensures in
    record {
      entered = before_more _ _ _ c.loop-k.k _ at here.kept (rw (entries, procs) at here.entered) c.loop-k.invariant.entered;
      sound = here.sound.each c.args.run.now.logs
          (entries ∙ sym (log_of_at c.args.run.now.logs _ _ (rw runs at c.as_slice-log-items.ensures.run.rising) at) ∙ ap (λ p. log_of c.args.run.now.logs p) (sym procs))
          c.loop-k.invariant.sound;
    }

pub returns-clause-entered : goal.returns-clause-entered
returns-clause-entered g c =
    let runs = ap (λ (r : RunRecord). r.logs) c.run.view_is in
    before_end (g.R.ChangeRegister.knows c.loop-k.register) c.args.run.now.logs c.loop-k.k (rw (c.as_slice-log-items.ensures.value ∙ runs) at c.loop-k-test.false) c.loop-k.invariant.entered
