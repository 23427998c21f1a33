use Rattle.totem_pass_ab.proofs.Common.{refl, ◌∙◌, ap, slice_get_read, LogRecord, RunRecord, one_more, all_logs}
use Rattle.totem_pass_ab.proofs.Placed.{least_at}
use Rattle.totem_pass_ab.proofs.misplaced_2_2.find.Goals as goal

pub returns-in-Some : goal.returns-in-Some
returns-in-Some c =
    let runs = ap (λ (r : RunRecord). r.logs) c.run.view_is in
    let run = c.args.run.now.logs in
    let at = slice_get_read c.as_slice-log-items.result.now _ c.loop-log.log-index c.log-item.result refl c.loop-log-test.true c.log-item.is in
    let entries = ap (λ (l : LogRecord). l.entries) c.log.view_is in
    let procs = ap (λ (l : LogRecord). l.proc) c.log.view_is in
    rw (c.new-in-Some.ensures, c.in_ok-begin_at.ensures, c.new.ensures.items, procs)
    (least_at run _ _ _ (rw runs at c.as_slice-log-items.ensures.run.rising) (rw (c.as_slice-log-items.ensures.value ∙ runs) at at) (rw (c.as_slice.ensures.value ∙ entries) at c.in-Some.ensures.found)
    (rw (c.as_slice-log-items.ensures.value ∙ runs) at c.loop-log.invariant) (rw (c.as_slice.ensures.value ∙ entries) at c.in-Some.ensures.least))

pub loop-log-preserved : goal.loop-log-preserved
loop-log-preserved c =
    let at = slice_get_read c.as_slice-log-items.result.now _ c.loop-log.log-index c.log-item.result refl c.loop-log-test.true c.log-item.is in
    let entries = ap (λ (l : LogRecord). l.entries) c.log.view_is in
    one_more _ _ _ _ at (rw (c.as_slice.ensures.value ∙ entries) at (c.in_default.ensures.none)) c.loop-log.invariant

pub returns : goal.returns
returns c =
    let runs = ap (λ (r : RunRecord). r.logs) c.run.view_is in
    rw (← (c.as_slice-log-items.ensures.value ∙ runs)) (all_logs _ _ c.loop-log-test.false c.loop-log.invariant).each
