use Rattle.totem_judge.proofs.Common.{refl, arith, slice_get_read}
use Rattle.totem_judge.proofs.Steps.{listed_more, delivered_more, sent_more}
use Rattle.totem_judge.proofs.replay.are_as_listed.Goals.{in-Send+else-not-is_origin_at, in-Deliver+else-not-is_delivery_of, in-Conf+else-at-stay, in-Fail}
use Rattle.totem_judge.proofs.replay.are_as_listed.Goals as goal

pub loop-at-preserved : goal.loop-at-preserved
loop-at-preserved c =
    let stands = slice_get_read c.args.entries.now _ c.loop-at.at c.index-entries-at.result refl (omega (arith, c.requires.within, c.loop-at-test.true)) c.index-entries-at.is in
    elim c.match-entry.branch [
      | in-Send+else-not-is_origin_at w ↦ (
          let here = rw w.in-Send.is at w.if-not-is_origin_at.ensures in
          rw (w.got-is, w.sent-is) (record {
            listed = listed_more _ _ _ _ _ _ _ (rw w.in-Send.is at stands) (w.next_sent-index.result, here) c.loop-at.invariant.listed;
            sends = sent_more _ _ _ _ _ c.loop-at.sent w.next_sent-index.result w.saturating_add-sent.result _ (rw w.in-Send.is at stands) (rw w.deref.ensures.value at w.next_sent-index.ensures) here
                (omega (arith, w.saturating_add-sent.ensures)) c.loop-at.invariant.sends;
          })
          )
      | in-Deliver+else-not-is_delivery_of w ↦ rw (w.got-is, w.sent-is) (record {
        listed = delivered_more _ _ _ c.args.stay.now c.loop-at.at c.loop-at.got w.next_got-index.result w.saturating_add-got.result w.in-Deliver.message w.in-Deliver.field-1 (rw w.in-Deliver.is at stands)
            (omega (arith, c.loop-at.auto.at)) c.loop-at-test.true (rw w.deref-in-Deliver.ensures.value at w.next_got-index.ensures) w.if-not-is_delivery_of.ensures (omega (arith, w.saturating_add-got.ensures)) c.loop-at.invariant.listed;
        sends = c.loop-at.invariant.sends;
      })
      | in-Conf+else-at-stay w ↦ rw (w.got-is, w.sent-is) (record { listed = listed_more _ _ _ _ _ _ _ (rw w.in-Conf.is at stands) w.if-at-stay.false c.loop-at.invariant.listed; sends = c.loop-at.invariant.sends })
      | in-Fail w ↦ rw (w.got-is, w.sent-is) (record { listed = listed_more _ _ _ _ _ _ _ (rw w.in-Fail.is at stands) tt c.loop-at.invariant.listed; sends = c.loop-at.invariant.sends })
    ]
