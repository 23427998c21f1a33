use Rattle.std.proofs.Common.{◌≡◌, slice_get, Some}
use Rattle.totem_judge_traffic.proofs.Rowing.{read_at, causal_more}
use Rattle.totem_judge_traffic.proofs.causality_5.are_causal.Goals as goal

pub add_to-taken-requires-clause-within : goal.add_to-taken-requires-clause-within
add_to-taken-requires-clause-within c = c.loop-message.invariant.0

pub loop-message-preserved : goal.loop-message-preserved
loop-message-preserved c =
    let at : slice_get c.args.sent.now c.loop-message.message-index ≡ Some c.message-item.result = read_at c.args.sent.now c.loop-message.message-index c.message-item.result c.loop-message-test.true c.message-item.is in (
      c.add_to-taken.ensures.within,
      c.add_to-taken.ensures.lacking,
      causal_more c.args.logs c.args.got.now c.args.sent.now c.loop-message.message-index c.add_to-taken.result c.message-item.result c.add_to-taken.new.rows at c.message-item.result.in_range
          c.add_to-taken.ensures.lacking c.add_to-taken.ensures.until (rw c.if-row_meets.false at c.row_meets.ensures) c.loop-message.invariant.2,
    )
