use Rattle.totem_judge_run.proofs.Common.{refl, ◌∙◌, ap, slice_get_read, LogRecord}
use Rattle.totem_judge_run.proofs.Walking.{so_far_more, delivered, walked}
use Rattle.totem_judge_run.proofs.orderly.walk.Goals as goal

pub loop-at-preserved : goal.loop-at-preserved
loop-at-preserved c =
    let entries = c.as_slice-entries.ensures.value ∙ ap (λ (l : LogRecord). l.entries) c.log.view_is in
    let at_entry = rw entries at (slice_get_read c.as_slice-entries.result.now _ c.loop-at.at c.index-entries-at.result refl c.loop-at-test.true c.index-entries-at.is) in
    let sends = rw c.if-not-branch.false at c.in_ok-add_send.ensures in
    let enters = rw c.if-not-branch-2.false at c.in_ok-enter.ensures in
    rw (c.go_past.ensures, c.last_after-before.ensures)
    (so_far_more _ _ _ _ _ _ _ _ _ _ _ _ at_entry (c.if-not-good.ensures.0 refl) c.is_failure-failed.ensures sends enters (rw c.if-failed.false at c.loop-at.invariant))

pub loop-at-preserved-in-Deliver : goal.loop-at-preserved-in-Deliver
loop-at-preserved-in-Deliver c =
    let entries = c.as_slice-entries.ensures.value ∙ ap (λ (l : LogRecord). l.entries) c.log.view_is in
    let at_entry = rw entries at (slice_get_read c.as_slice-entries.result.now _ c.loop-at.at c.index-entries-at.result refl c.loop-at-test.true c.index-entries-at.is) in
    let fits = c.if-not-good.ensures.0 refl in
    rw c.if-failed.false (delivered _ _ _ _ _ _ _ _ _ _ (rw c.in-Deliver.is at at_entry) (rw c.in-Deliver.is at fits) (rw c.if-failed.false at c.loop-at.invariant))

pub returns : goal.returns
returns c =
    let entries = c.as_slice-entries.ensures.value ∙ ap (λ (l : LogRecord). l.entries) c.log.view_is in
    walked _ _ _ _ _ _ _ _ _ (rw entries at c.loop-at-test.false) c.loop-at.invariant
