use Rattle.totem_cert.proofs.Common.{◌≡◌, ◌++◌, take, drop, length, ap, ◌∙◌, arith, common_steps, RunRecord}
use Rattle.totem_cert.proofs.Sound.{so_far_more}
use Rattle.totem_cert.proofs.Started.{started}
use Rattle.totem_cert.proofs.counted.number_by_counts.Goals as goal

pub loop-k-init : goal.loop-k-init
loop-k-init c =
    let runs = ap (λ (r : RunRecord). r.logs) c.run.view_is in
    let is = rw (c.as_slice.ensures.value ∙ runs) at c.in_ok-lines.ensures in
    record { so_far = started _ _ (rw runs at c.as_slice.ensures.run) is; counts = rw is c.in_ok-counts.ensures }

pub loop-k-preserved : goal.loop-k-preserved
loop-k-preserved c = record {
  so_far = so_far_more _ _ _ _ c.loop-k.invariant.so_far c.in_ok-give_class.ensures.given;
  counts = (let same : take c.loop-k.counts.len (c.give_class.new.counts ++ drop (length c.give_class.new.counts) c.loop-k.counts.items) ≡ c.give_class.new.counts = grind (arith, common_steps) in rw same c.in_ok-give_class.ensures.counts);
}

pub give_class-requires-clause-head : goal.give_class-requires-clause-head
give_class-requires-clause-head c = rw c.deref.ensures.value at c.in-Some.ensures.head
