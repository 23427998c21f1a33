use Rattle.std.proofs.Common.{◌≡◌, slice_get, Some}
use Rattle.totem_judge_traffic.proofs.Rowing.{read_at, no_gaps_more, lacks_more, lacks_behind_more}
use Rattle.totem_judge_traffic.proofs.gap_6_3.has_no_gaps.Goals as goal

pub loop-message-preserved : goal.loop-message-preserved
loop-message-preserved c =
    let at : slice_get c.args.got.now c.loop-message.message-index ≡ Some c.message-item.result = read_at c.args.got.now c.loop-message.message-index c.message-item.result c.loop-message-test.true c.message-item.is in (
      no_gaps_more c.args.logs c.args.got.now c.loop-message.message-index c.message-item.result at c.by-by.result c.by-by.ensures c.minus-others.result c.minus-others.ensures
          c.args.following.now c.loop-message.lacking c.loop-message.lacking_behind c.loop-message.invariant.1 c.loop-message.invariant.2
          (rw c.if-meet.false at c.meet.ensures) (rw c.if-meet-2.false at c.meet-in-loop-message.ensures) c.loop-message.invariant.0,
      lacks_more c.args.logs c.args.got.now c.loop-message.message-index c.message-item.result at c.by-by.result c.by-by.ensures c.minus-others.result c.minus-others.ensures
          c.loop-message.lacking c.add.new.self c.add.ensures.kept c.add.ensures.added c.loop-message.invariant.1,
      lacks_behind_more c.args.logs c.args.got.now c.loop-message.message-index c.message-item.result at c.by-by.result c.by-by.ensures c.minus-others.result c.minus-others.ensures
          c.args.following.now c.behind_with.result c.behind_with.ensures c.intersection-behind.result c.intersection-behind.ensures
          c.loop-message.lacking_behind c.add-in-loop-message.new.self c.add-in-loop-message.ensures.kept c.add-in-loop-message.ensures.added c.loop-message.invariant.2,
    )
