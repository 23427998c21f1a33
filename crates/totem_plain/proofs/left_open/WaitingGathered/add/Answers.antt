use Rattle.totem_plain.proofs.Common.{refl, slice_get_read, WaitsFor}
use Rattle.totem_search.proofs.Adding.{some_more, all_added}
use Rattle.totem_plain.proofs.left_open.WaitingGathered.add.Goals as goal

pub loop-other-preserved : goal.loop-other-preserved
loop-other-preserved c =
    let at = slice_get_read c.as_slice-other-items.result.now _ c.loop-other.other-index c.other-item.result refl c.loop-other-test.true c.other-item.is in
    some_more (WaitsFor c.args.run.now.logs c.args.proc c.in-Conf.conf) _ _ c.other-item.result _ _ _ at c.in_ok-add_member.ensures c.loop-other.invariant

pub returns : goal.returns
returns c = rw c.in-Conf.is (rw c.as_slice-other-items.ensures.value at (all_added (WaitsFor c.args.run.now.logs c.args.proc c.in-Conf.conf) _ _ _ _ c.loop-other-test.false c.loop-other.invariant))
