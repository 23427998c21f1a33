use Rattle.totem_pass_d.proofs.Common.{refl, slice_get_read}
use Rattle.totem_pass_d.proofs.WhatIsPending.{IsPendingThere, all_stays}
use Rattle.totem_search.proofs.Adding.{some_more}
use Rattle.totem_pass_d.proofs.pendings.add_pending.Goals as goal

pub loop-stay-preserved : goal.loop-stay-preserved
loop-stay-preserved c =
    let s = c.args.stays.now in
    let at = slice_get_read c.deref-stay-items.result.now _ _ c.stay-item.result refl c.loop-stay-test.true c.stay-item.is in
    some_more (IsPendingThere s.run.now.logs s.ring) _ _ c.stay-item.result _ _ _ (rw c.deref-stay-items.ensures.value at at) c.in_ok-add_missing.ensures c.loop-stay.invariant

pub returns : goal.returns
returns c =
    let s = c.args.stays.now in
    all_stays s.run.now.logs s.ring s.list.items _ _ _ c.requires.are (rw (← c.deref-stay-items.ensures.value) c.loop-stay-test.false) c.loop-stay.invariant
