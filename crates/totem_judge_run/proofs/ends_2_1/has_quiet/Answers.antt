use Rattle.totem_judge_run.proofs.Common.{ap, ◌∙◌, RunRecord}
use Rattle.totem_judge_run.proofs.EndsTogether.{none_alone}
use Rattle.totem_judge_run.proofs.ends_2_1.has_quiet.Goals as goal

pub returns : goal.returns
returns c =
    let runs = ap (λ (r : RunRecord). r.logs) c.run.view_is in
    let logs = c.as_slice-log-items.ensures.value ∙ runs in
    rw (← logs) (none_alone c.as_slice-log-items.result.now _ (rw logs (rw runs at c.as_slice-log-items.ensures.run.rising)) c.loop-log-test.false c.loop-log.invariant)
