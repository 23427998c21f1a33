use Rattle.std.proofs.Common.{ap, ◌∙◌, nat_lt}
use Rattle.totem_core.proofs.Telling.{one_chosen, none_chosen, is_above_last, not_above_last}
use Rattle.totem_core.proofs.leaving.write_above.Goals as goal
use Rattle.totem_core.proofs.leaving.write_above.Goals.{then-get-last+in_ok-deliver, else-get-last}

pub loop-message-preserved : goal.loop-message-preserved
loop-message-preserved c = elim c.if-get-last.branch [
  | then-get-last+in_ok-deliver w ↦
      one_chosen c.args.conf.now (λ m. nat_lt c.args.last m.number) _ _ _ _ c.loop-message.message-index c.message-item.result c.loop-message.invariant c.loop-message-test.true c.message-item.is
      (is_above_last _ _ _ c.get.ensures.value w.if-get-last.true) (ap (λ v. v.items) w.entries-is ∙ w.in_ok-deliver.ensures {u = tt})
  | else-get-last w ↦
      ap (λ v. v.items) w.entries-is
      ∙ none_chosen c.args.conf.now (λ m. nat_lt c.args.last m.number) _ _ _ c.loop-message.message-index c.message-item.result c.loop-message.invariant c.loop-message-test.true c.message-item.is
      (not_above_last _ _ _ c.get.ensures.value w.if-get-last.false)
]
