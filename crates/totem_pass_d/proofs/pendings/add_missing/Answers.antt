use Rattle.totem_pass_d.proofs.Common.{refl, slice_get_read}
use Rattle.totem_pass_d.proofs.WhatIsPending.{IsMissed, not_missed, one_missed, all_missing}
use Rattle.totem_search.proofs.Adding.{some_more}
use Rattle.totem_pass_d.proofs.pendings.add_missing.Goals as goal
use Rattle.totem_pass_d.proofs.pendings.add_missing.Goals.{then-not-delivers+in_ok-push, else-not-delivers}

pub loop-message-preserved : goal.loop-message-preserved
loop-message-preserved c =
    let s = c.args.stays.now in
    let p = c.args.stay.now.proc in
    let at = slice_get_read c.args.sent.now _ _ c.message-item.result refl c.loop-message-test.true c.message-item.is in
    elim c.if-not-delivers.branch [
      | then-not-delivers+in_ok-push w ↦ rw (w.list-is, w.in_ok-push.ensures.items)
          (some_more (IsMissed s.run.now.logs s.ring p) _ _ c.message-item.result _ _ _ at (one_missed _ _ _ _ _ (record { proc = p; msg = c.message-item.result }) (record { proc = refl; msg = refl; missing = w.if-not-delivers.ensures.never.never })) c.loop-message.invariant)
      | else-not-delivers w ↦ rw w.list-is (some_more (IsMissed s.run.now.logs s.ring p) _ _ c.message-item.result _ _ _ at (not_missed _ _ _ _ _ w.if-not-delivers.ensures.there) c.loop-message.invariant)
    ]

pub returns : goal.returns
returns c =
    all_missing c.args.stays.now c.args.stay.now.proc _ _ _ c.requires.known (c.if-not-is_open.ensures.0 refl) (rw (← c.requires.sent) c.loop-message-test.false) (rw c.requires.sent at c.loop-message.invariant)
