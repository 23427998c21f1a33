use Rattle.totem_judge_run.proofs.Common.{refl, sym, ◌∙◌, ap, slice_get_read, LogRecord, RunRecord, log_of, log_of_at}
use Rattle.totem_judge_run.proofs.WhoWaits.{waits_end}
use Rattle.totem_judge_run.proofs.Gathering.{gathered_more}
use Rattle.totem_judge_run.proofs.waitings.waiting.Goals as goal

pub waiting_of-requires-clause-log : goal.waiting_of-requires-clause-log
waiting_of-requires-clause-log c =
    let runs = ap (λ (r : RunRecord). r.logs) c.run.view_is in
    let at = slice_get_read c.as_slice-log-items.result.now _ _ c.log-item.result refl c.loop-k-test.true c.log-item.is in
    let procs = ap (λ (l : LogRecord). l.proc) c.log.view_is in
    let entries = ap (λ (l : LogRecord). l.entries) c.log.view_is in
    c.as_slice-entries.ensures.value ∙ entries ∙ sym (log_of_at c.args.run.now.logs _ _ (rw runs at c.as_slice-log-items.ensures.run.rising) (rw (c.as_slice-log-items.ensures.value ∙ runs) at at)) ∙ ap (λ p. log_of c.args.run.now.logs p) (sym procs)

pub loop-k-preserved : goal.loop-k-preserved
loop-k-preserved c =
    let runs = ap (λ (r : RunRecord). r.logs) c.run.view_is in
    let at = slice_get_read c.as_slice-log-items.result.now _ _ c.log-item.result refl c.loop-k-test.true c.log-item.is in
    let procs = ap (λ (l : LogRecord). l.proc) c.log.view_is in
    rw (c.in_ok-extend_from_slice.ensures.items, (c.as_slice-log-items.ensures.value ∙ runs))
    (gathered_more _ _ _ (rw (c.as_slice-log-items.ensures.value ∙ runs) at at) _ _
    (rw runs at c.as_slice-log-items.ensures.run.rising) (rw (c.as_slice-log-items.ensures.value ∙ runs) at c.loop-k.invariant)
    (rw (c.deref-in-loop-k.ensures.value, ← procs) c.in_ok-others.ensures))

pub returns : goal.returns
returns c =
    let runs = ap (λ (r : RunRecord). r.logs) c.run.view_is in
    rw (← (c.as_slice-log-items.ensures.value ∙ runs)) (waits_end _ _ _ c.loop-k-test.false c.loop-k.invariant)
