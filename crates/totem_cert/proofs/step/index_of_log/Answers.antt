use Rattle.totem_cert.proofs.Common.{length, ◌<◌, ◌≤◌, refl, ◌∙◌, ap, arith, slice_get_read, slice_get_within, LogRecord, RunRecord, holds_more}
use Rattle.totem_cert.proofs.step.index_of_log.Goals as goal

pub loop-k-preserved : goal.loop-k-preserved
loop-k-preserved c =
    let at = slice_get_read c.as_slice-log-items.result.now _ c.loop-k.k c.log-item.result refl c.loop-k-test.true c.log-item.is in
    let procs = ap (λ (l : LogRecord). l.proc) c.log.view_is in
    holds_more _ _ _ _ at (λ same. (let h = procs ∙ same in grind (arith, c.if-eq.ensures))) c.loop-k.invariant

pub returns-clause-log : goal.returns-clause-log
returns-clause-log c =
    let runs = ap (λ (r : RunRecord). r.logs) c.run.view_is in
    let end : length c.args.run.now.logs ≤ c.loop-k.k = rw (c.as_slice-log-items.ensures.value ∙ runs) at c.loop-k-test.false in
    λ k log at. (rw (c.as_slice-log-items.ensures.value ∙ runs) at c.loop-k.invariant).each k log (let lt : k < length c.args.run.now.logs = slice_get_within _ _ _ at in omega (arith, end)) at
