use Rattle.totem_pass_ab.proofs.Common.{◌∙◌, ap, rules, RunRecord}
use Rattle.totem_pass_ab.proofs.Repeating.{once_each}
use Rattle.totem_pass_ab.proofs.twice_1_4.find.Goals as goal

pub returns-then-not-may_repeat_sends : goal.returns-then-not-may_repeat_sends
returns-then-not-may_repeat_sends c =
    let runs = c.as_slice.ensures.value ∙ ap (λ (r : RunRecord). r.logs) c.run.view_is in
    once_each c.args.run.now.logs _ (search rules) (rw runs at (rw c.if-not-may_repeat_sends.true at c.in_ok-may_repeat_sends.ensures)) c.in_ok-doubtful.ensures
