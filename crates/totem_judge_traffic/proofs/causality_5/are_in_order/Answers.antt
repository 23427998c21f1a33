use Rattle.totem_judge_traffic.proofs.Common.{◌≡◌, ◌⊎◌, ◌<◌, inl, inr, slice_get, Some, slice_index}
use Rattle.totem_judge_traffic.specs.LogSets.{Has}
use Rattle.totem_judge_traffic.proofs.Rowing.{read_at}
use Rattle.totem_judge_traffic.proofs.InSequence.{order_more}
use Rattle.totem_judge_traffic.proofs.causality_5.are_in_order.Goals.{else-contains-via-then-contains+else-message-last, else-contains-via-else-contains}
use Rattle.totem_judge_traffic.proofs.causality_5.are_in_order.Goals as goal

pub loop-message-preserved : goal.loop-message-preserved
loop-message-preserved c =
    let at : slice_get c.args.got.now c.loop-message.message-index ≡ Some c.message-item.result = read_at c.args.got.now c.loop-message.message-index c.message-item.result c.loop-message-test.true c.message-item.is in
    let fresh : (Has c.loop-message.begun c.message-item.result.sender → ⊥) ⊎ (slice_index c.loop-message.last c.message-item.result.sender < c.message-item.result.sent) = elim c.else-contains.branch [
      | else-contains-via-then-contains+else-message-last w ↦ inr w.if-message-last.false
      | else-contains-via-else-contains w ↦ inl (λ has. (let yes = c.contains.ensures.1 has in let no = w.if-contains.false in cc))
    ] in
    order_more c.args.got.now c.loop-message.message-index c.loop-message.begun c.with-begun.result c.loop-message.last c.message-item.result at c.message-item.result.in_range
    fresh c.with-begun.ensures.same c.with-begun.ensures.others c.loop-message.invariant
