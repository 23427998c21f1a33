use Rattle.totem_cert.proofs.Common.{refl, ap, ◌∙◌, slice_get_read, RunRecord}
use Rattle.totem_cert.proofs.Giving.{given_stay, given_push, given_all}
use Rattle.totem_cert.proofs.counted.give_heads.Goals as goal
use Rattle.totem_cert.proofs.counted.give_heads.Goals.{then-is_in_class+in_ok-number_head, else-is_in_class}

pub loop-k-preserved : goal.loop-k-preserved
loop-k-preserved c =
    let runs = ap (λ (r : RunRecord). r.logs) c.run.view_is in
    let rising = (rw runs at c.as_slice-log-items.ensures.run.rising) in
    let at = rw (c.as_slice-log-items.ensures.value ∙ runs) at (slice_get_read c.as_slice-log-items.result.now _ c.loop-k.k c.log-item.result refl c.loop-k-test.true c.log-item.is) in
    elim c.if-is_in_class.branch [
      | then-is_in_class+in_ok-number_head w ↦ rw (w.lines-is, w.counts-is) (record {
        given = given_push _ _ rising c.requires.table _ c.requires.sound _ _ _ _ _ at _ (rw c.deref.ensures.value at c.head_of-head.ensures) c.loop-k.invariant.given _ w.in_ok-number_head.ensures.pushes (w.if-is_in_class.ensures.0 refl);
        counts = w.in_ok-number_head.ensures.counts;
      })
      | else-is_in_class w ↦ rw (w.lines-is, w.counts-is) (record {
        given = given_stay _ _ rising c.requires.table _ c.requires.sound _ _ _ _ _ at _ (rw c.deref.ensures.value at c.head_of-head.ensures) c.loop-k.invariant.given (λ is. (let h = w.if-is_in_class.ensures.1 is in cc));
        counts = c.loop-k.invariant.counts;
      })
    ]

pub number_head-requires-clause-head : goal.number_head-requires-clause-head
number_head-requires-clause-head c = rw c.deref.ensures.value at c.head_of-head.ensures

pub returns-clause-given : goal.returns-clause-given
returns-clause-given c =
    let runs = ap (λ (r : RunRecord). r.logs) c.run.view_is in
    given_all _ _ (rw runs at c.as_slice-log-items.ensures.run.rising) c.requires.table _ c.requires.sound _ _ _ _ (rw (c.as_slice-log-items.ensures.value ∙ runs) at c.loop-k-test.false) c.loop-k.invariant.given
