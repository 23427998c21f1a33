use Rattle.totem_pass_d.proofs.Common.{refl, ◌≡◌, length, ap, arith, slice_get_read, along_more}
use Rattle.totem_pass_d.proofs.GapFaults.{lasts_whole}
use Rattle.totem_pass_d.proofs.gap_6_3.lasts_of.Goals as goal

pub loop-follower-preserved : goal.loop-follower-preserved
loop-follower-preserved c =
    let at = slice_get_read c.deref-follower-items.result.now _ c.loop-follower.follower-index c.follower-item.result refl c.loop-follower-test.true c.follower-item.is in
    rw c.in_ok-push.ensures.items (along_more _ _ _ _ c.follower-item.result _ (rw c.deref-follower-items.ensures.value at at) c.last_of.ensures c.loop-follower.invariant)

pub returns : goal.returns
returns c =
    let long : length c.args.stays.now.list.items ≡ c.loop-follower.follower-index = (let e = c.deref-follower-items.ensures.value in let l = ap length e in omega (arith, l)) in
    lasts_whole _ _ _ _ _ _ long c.loop-follower.invariant
