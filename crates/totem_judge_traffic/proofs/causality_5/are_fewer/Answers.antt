use Rattle.std.proofs.Common.{◌≡◌, slice_get, Some}
use Rattle.totem_judge_traffic.proofs.Rowing.{read_at}
use Rattle.totem_judge_traffic.proofs.InSequence.{fewer_more}
use Rattle.totem_judge_traffic.proofs.causality_5.are_fewer.Goals as goal

pub loop-message-preserved : goal.loop-message-preserved
loop-message-preserved c =
    let at : slice_get c.args.sent.now c.loop-message.message-index ≡ Some c.message-item.result = read_at c.args.sent.now c.loop-message.message-index c.message-item.result c.loop-message-test.true c.message-item.is in
    fewer_more c.args.sent.now c.loop-message.message-index c.loop-message.last c.message-item.result _ at c.message-item.result.in_range (c.is_within.ensures.0 c.if-not-is_within.false) c.loop-message.invariant
