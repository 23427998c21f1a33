use Rattle.totem_pass_d.proofs.Common.{◌≡◌, slice_get, Some, refl, arith, slice_get_read, slice_get-get_or, slice_get_within}
use Rattle.totem_pass_d.proofs.GapFaults.{keep_up_more, keep_up_whole}
use Rattle.totem_pass_d.proofs.gap_6_3.all_keep_up.Goals as goal

pub keeps_up-requires-clause-last : goal.keeps_up-requires-clause-last
keeps_up-requires-clause-last c =
    let at = slice_get_read c.deref-follower-items.result.now _ c.loop-k.k c.follower-item.result refl c.loop-k-test.true c.follower-item.is in
    let stands : slice_get c.args.stays.now.list.items c.loop-k.k ≡ Some c.follower-item.result = rw c.deref-follower-items.ensures.value at at in
    let within = slice_get_within c.args.stays.now.list.items c.loop-k.k c.follower-item.result stands in
    c.requires.lasts.each c.loop-k.k c.follower-item.result _ stands (slice_get-get_or c.args.lasts.now c.loop-k.k _ (omega (arith, within, c.requires.lasts.long)))

pub loop-k-preserved : goal.loop-k-preserved
loop-k-preserved c =
    let at = slice_get_read c.deref-follower-items.result.now _ c.loop-k.k c.follower-item.result refl c.loop-k-test.true c.follower-item.is in
    keep_up_more _ _ _ _ _ _ _ c.follower-item.result (rw c.deref-follower-items.ensures.value at at) c.if-not-keeps_up.ensures c.loop-k.invariant

pub returns : goal.returns
returns c = keep_up_whole _ _ _ _ _ _ _ (rw c.deref-follower-items.ensures.value at c.loop-k-test.false) c.loop-k.invariant
