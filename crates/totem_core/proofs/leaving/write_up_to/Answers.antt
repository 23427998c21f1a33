use Rattle.std.proofs.Common.{ap, ◌∙◌, nat_le}
use Rattle.totem_core.proofs.Telling.{one_chosen, none_chosen, is_up_to, not_up_to}
use Rattle.totem_core.proofs.leaving.write_up_to.Goals as goal
use Rattle.totem_core.proofs.leaving.write_up_to.Goals.{then-get-last+in_ok-deliver, else-get-last}

pub loop-message-preserved : goal.loop-message-preserved
loop-message-preserved c = elim c.if-get-last.branch [
  | then-get-last+in_ok-deliver w ↦
      one_chosen c.args.conf.now (λ m. nat_le m.number c.args.last) _ _ _ _ c.loop-message.message-index c.message-item.result c.loop-message.invariant c.loop-message-test.true c.message-item.is
      (is_up_to _ _ _ c.get.ensures.value w.if-get-last.true) (ap (λ v. v.items) w.entries-is ∙ w.in_ok-deliver.ensures {u = tt})
  | else-get-last w ↦
      ap (λ v. v.items) w.entries-is
      ∙ none_chosen c.args.conf.now (λ m. nat_le m.number c.args.last) _ _ _ c.loop-message.message-index c.message-item.result c.loop-message.invariant c.loop-message-test.true c.message-item.is
      (not_up_to _ _ _ c.get.ensures.value w.if-get-last.false)
]
