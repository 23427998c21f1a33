use Rattle.totem_pass_d.proofs.Common.{refl, slice_get_read, IsPendingIn}
use Rattle.totem_judge_run.proofs.PendingOrder.{are_pending_if_ok, empty_has_none}
use Rattle.totem_pass_d.proofs.WhatIsPending.{all_rings}
use Rattle.totem_search.proofs.Adding.{some_more}
use Rattle.totem_pass_d.proofs.pendings.pending_of.Goals as goal

pub loop-ring-preserved : goal.loop-ring-preserved
loop-ring-preserved c =
    let run = c.args.jobs.now.run.now.logs in
    let at = slice_get_read c.deref-ring-items.result.now _ _ c.ring-item.result refl c.loop-ring-test.true c.ring-item.is in
    some_more (IsPendingIn run) _ _ c.ring-item.result _ _ _ (rw c.deref-ring-items.ensures.value at at) (rw (c.in_ok-stays.ensures.logs, c.in_ok-stays.ensures.ring) at c.in_ok-add_pending.ensures) c.loop-ring.invariant

pub returns : goal.returns
returns c =
    let jobs = c.args.jobs.now in
    are_pending_if_ok _ c.loop-ring.list.items c.in_order.result
    (all_rings jobs.run.now.logs jobs.rings.items _ c.new-list.result.items _ c.requires.rings (rw c.deref-ring-items.ensures.value at c.loop-ring-test.false) (empty_has_none c.new-list.result.items c.new-list.ensures.items) c.loop-ring.invariant)
    c.in_order.ensures
