use Rattle.totem_pass_ab.proofs.Common.{refl, ◌∙◌, ap, slice_get_read, LogRecord, RunRecord}
use Rattle.totem_pass_ab.proofs.Repeating.{sure_log, doubtful_log, once_but}
use Rattle.totem_pass_ab.proofs.twice_1_4.doubtful.Goals as goal
use Rattle.totem_pass_ab.proofs.twice_1_4.doubtful.Goals.{then-not-branch+in_ok-push, else-not-branch}

pub loop-k-preserved : goal.loop-k-preserved
loop-k-preserved c =
    let at = slice_get_read c.as_slice-logs.result.now _ c.loop-k.k c.index-logs-k.result refl c.loop-k-test.true c.index-logs-k.is in
    elim c.if-not-branch.branch [
      | then-not-branch+in_ok-push w ↦ rw w.list-is (doubtful_log _ _ _ _ _ at (w.in_ok-push.ensures.items ∙ rw (ap (λ (l : LogRecord). l.proc) c.log.view_is) refl) c.loop-k.invariant)
      | else-not-branch w ↦ rw w.list-is (sure_log _ _ _ _ at (rw w.if-not-branch.false at c.in_ok-deliveries_are_once.ensures) c.loop-k.invariant)
    ]

pub returns : goal.returns
returns c =
    let runs = c.as_slice-logs.ensures.value ∙ ap (λ (r : RunRecord). r.logs) c.run.view_is in
    rw (← runs) (once_but _ _ _ c.loop-k-test.false c.loop-k.invariant)
