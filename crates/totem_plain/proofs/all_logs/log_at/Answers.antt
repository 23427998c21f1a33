use Rattle.totem_plain.proofs.Common.{◌≡◌, refl, sym, ◌∙◌, ap, slice_get_read, LogRecord, RunRecord, none_more, none_at}
use Rattle.totem_plain.proofs.Logs.{no_log, is_log}
use Rattle.totem_plain.proofs.all_logs.log_at.Goals as goal

pub returns-then-rank-clause-some : goal.returns-then-rank-clause-some
returns-then-rank-clause-some c =
    let runs = ap (λ (r : RunRecord). r.logs) c.run.view_is in
    let at = slice_get_read c.as_slice-log-items.result.now _ c.loop-log.log-index c.log-item.result refl c.loop-log-test.true c.log-item.is in
    let procs = ap (λ (l : LogRecord). l.proc) c.log.view_is in
    let same : c.log-item.result.proc ≡ c.args.proc = sym procs ∙ sym c.rank.ensures.value ∙ c.if-rank.true ∙ c.rank-in-loop-log.ensures.value in
    is_log _ _ _ _ (rw runs at c.as_slice-log-items.ensures.run.rising) (rw (c.as_slice-log-items.ensures.value ∙ runs) at at) same

pub loop-log-preserved : goal.loop-log-preserved
loop-log-preserved c =
    let at = slice_get_read c.as_slice-log-items.result.now _ c.loop-log.log-index c.log-item.result refl c.loop-log-test.true c.log-item.is in
    let procs = ap (λ (l : LogRecord). l.proc) c.log.view_is in
    none_more _ _ (none_at _ _ _ _ at (λ same. c.if-rank.false (c.rank.ensures.value ∙ procs ∙ same ∙ sym c.rank-in-loop-log.ensures.value))) c.loop-log.invariant

pub returns-clause-none : goal.returns-clause-none
returns-clause-none c =
    let runs = ap (λ (r : RunRecord). r.logs) c.run.view_is in
    rw (← (c.as_slice-log-items.ensures.value ∙ runs)) (no_log _ _ _ c.loop-log-test.false c.loop-log.invariant)
