use Rattle.std.proofs.Common.{arith}
use Rattle.totem_judge_run.proofs.Common.{refl, ◌∙◌, ap, slice_get_read, LogRecord, RunRecord}
use Rattle.totem_judge_run.proofs.EndsTogether.{together_more, all_together, least_end}
use Rattle.totem_judge_run.proofs.ends_2_1.first_of.Goals as goal

pub returns-in-Some-clause-least : goal.returns-in-Some-clause-least
returns-in-Some-clause-least c =
    let runs = ap (λ (r : RunRecord). r.logs) c.run.view_is in
    let run = c.args.run.now.logs in
    let logs = c.as_slice-log-items.ensures.value ∙ runs in
    let at = slice_get_read c.as_slice-log-items.result.now _ c.loop-k.k c.log-item.result refl c.loop-k-test.true c.log-item.is in
    let procs = ap (λ (l : LogRecord). l.proc) c.log.view_is in
    rw procs
    (least_end run _ _ _ _ (rw runs at c.as_slice-log-items.ensures.run.rising) (rw logs at at) c.in-Some.ensures.quiet c.in-Some.ensures.found (rw logs at c.loop-k.invariant) refl)

pub loop-k-preserved : goal.loop-k-preserved
loop-k-preserved c = grind (arith, slice_get_read, together_more)

pub returns-clause-none : goal.returns-clause-none
returns-clause-none c =
    let runs = ap (λ (r : RunRecord). r.logs) c.run.view_is in
    let logs = c.as_slice-log-items.ensures.value ∙ runs in
    rw (← logs) (all_together _ _ (rw logs (rw runs at c.as_slice-log-items.ensures.run.rising)) c.loop-k-test.false c.loop-k.invariant)
