use Rattle.totem_judge.proofs.Common.{ap, ◌∙◌, RunRecord}
use Rattle.totem_judge.proofs.Settled.{view}
use Rattle.totem_judge.proofs.judging.observe_configurations.Goals as goal

pub returns : goal.returns
returns c =
    let runs = ap (λ (r : RunRecord). r.logs) c.run.view_is in
    let logs = c.as_slice-logs.ensures.value ∙ runs in
    let lines = c.as_slice-lines.ensures.value in
    view c.args.run.now.logs c.args.certificate.now.lines c.in_ok-list.list.items c.in-Some.field-0.observed.items c.in-Some.field-0.pending.items (rw runs at c.as_slice-logs.ensures.run) c.requires.orderly c.requires.together c.requires.certified
    (rw (logs, c.deref-else-not-rise.ensures.value) at c.if-not-are_covered.ensures) (rw c.deref.ensures.value at c.if-not-rise.ensures)
    (rw (logs, lines) at (rw c.in-Some.is at c.in_ok-observed.ensures)) c.in_ok-in_order.field-0.items c.in_ok-in_order.ensures
