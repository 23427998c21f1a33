use Rattle.totem_judge_run.proofs.Common.{AllWithin-more, at_read, SharesEnd}
use Rattle.totem_judge_run.proofs.ends_2_1.all_share.Goals as goal

pub loop-member-preserved : goal.loop-member-preserved
loop-member-preserved c =
    let P = SharesEnd c.args.run.now.logs c.args.conf.now in
    AllWithin-more P c.args.members.now 0 _ c.loop-member.invariant
    (at_read c.args.members.now P _ _ c.loop-member-test.true c.member-item.is (c.shares_end.ensures.0 (let f = c.if-not-shares_end.false in cc)))
