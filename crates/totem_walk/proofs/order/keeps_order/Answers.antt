use Rattle.std.proofs.Common.{arith}
use Rattle.totem_walk.proofs.Pacing.{pace_more, order_more, order_all}
use Rattle.totem_walk.proofs.order.keeps_order.Goals as goal

pub loop-at-preserved : goal.loop-at-preserved
loop-at-preserved c =
    let log = c.args.log.now in
    let conf = c.args.conf.now in
    let deliveries = c.args.deliveries.now in
    let before = c.loop-at.invariant in
    record {
      pace = pace_more log conf deliveries c.loop-at.at _ c.read-entry.ensures.entry c.loop-at.pace c.behind-pace.result c.behind-pace.ensures before.pace;
      kept = order_more log conf deliveries c.loop-at.at _ c.read-entry.ensures.entry c.loop-at.pace c.if-is_broken_by.ensures.in_time before.pace before.kept;
      counted = (let here = before.counted in let more = c.read-entry.ensures.counted in omega arith);
    }

pub returns-clause-kept : goal.returns-clause-kept
returns-clause-kept c = order_all c.args.log.now c.args.conf.now c.args.deliveries.now c.loop-at.at c.loop-at-test.false c.loop-at.invariant.kept
