use Rattle.totem_judge_run.proofs.Common.{refl, ◌∙◌, ap, slice_get_read, RunRecord}
use Rattle.totem_judge_run.proofs.ChangesMet.{more_logs, all_agree}
use Rattle.totem_judge_run.proofs.Distinct.{sent_more, sent_all, none_between, sends_once_if}
use Rattle.totem_judge_run.proofs.Placed.{one_more, each_process, all_logs}
use Rattle.totem_judge_run.proofs.Orderliness.{orderly_if}
use Rattle.totem_judge_run.proofs.orderly.is_orderly.Goals as goal

pub loop-log-preserved : goal.loop-log-preserved
loop-log-preserved c =
    let so = c.loop-log.invariant in
    let logs = c.as_slice-log-items.ensures.value ∙ ap (λ (r : RunRecord). r.logs) c.run.view_is in
    let at = rw logs at (slice_get_read c.as_slice-log-items.result.now _ c.loop-log.log-index c.log-item.result refl c.loop-log-test.true c.log-item.is) in
    let w = rw c.if-not-branch.false at c.in_ok-walk.ensures in
    record {
      sent = sent_more c.args.run.now.logs c.loop-log.log-index _ _ _ at w.sends.adds so.sent;
      regular = one_more _ _ _ _ at w.sends.regular so.regular;
      placed = one_more _ _ _ _ at w.placed so.placed;
      changes = more_logs _ _ _ _ _ at w.changes so.changes;
    }

pub returns : goal.returns
returns c =
    let so = c.loop-log.invariant in
    let logs = c.as_slice-log-items.ensures.value ∙ ap (λ (r : RunRecord). r.logs) c.run.view_is in
    let end = rw logs at c.loop-log-test.false in
    orderly_if c.args.run.now.logs _ c.requires
    (sends_once_if _ _ _ (each_process _ _ _ none_between end so.regular) (sent_all _ _ _ end so.sent) c.are_distinct.ensures)
    (all_logs _ _ end so.placed) (all_agree _ _ _ end so.changes (rw c.if-not-branch-2.false at c.in_ok-are_each_once.ensures))
