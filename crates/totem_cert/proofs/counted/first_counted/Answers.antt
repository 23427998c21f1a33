use Rattle.totem_cert.proofs.Common.{refl, ap, ◌∙◌, slice_get_read, RunRecord, holds_more}
use Rattle.totem_cert.proofs.ClassHeads.{head_within, head_ready}
use Rattle.totem_cert.proofs.Next.{first_is_next, none_ready_end}
use Rattle.totem_cert.proofs.counted.first_counted.Goals as goal

pub is_unkept-requires : goal.is_unkept-requires
is_unkept-requires c =
    let rising = (rw (ap (λ (r : RunRecord). r.logs) c.run.view_is) at c.as_slice-log-items.ensures.run.rising) in
    head_within _ _ rising c.requires.table _ c.requires.sound.fits _ c.requires.counts _ _ c.head_of-head.ensures

pub returns-then-is_unkept-clause-found : goal.returns-then-is_unkept-clause-found
returns-then-is_unkept-clause-found c =
    let runs = ap (λ (r : RunRecord). r.logs) c.run.view_is in
    let rising = (rw runs at c.as_slice-log-items.ensures.run.rising) in
    let at = rw (c.as_slice-log-items.ensures.value ∙ runs) at (slice_get_read c.as_slice-log-items.result.now _ c.loop-k.k c.log-item.result refl c.loop-k-test.true c.log-item.is) in
    first_is_next _ _ _ _ rising c.requires.sound at ((head_ready _ _ rising c.requires.table _ c.requires.sound.fits _ c.requires.counts _ _ _ _ c.head_of-head.ensures at c.if-is_unkept.ensures).0 refl)
    (rw (c.as_slice-log-items.ensures.value ∙ runs) at c.loop-k.invariant)

pub loop-k-preserved : goal.loop-k-preserved
loop-k-preserved c =
    let runs = ap (λ (r : RunRecord). r.logs) c.run.view_is in
    let rising = (rw runs at c.as_slice-log-items.ensures.run.rising) in
    let at = rw (c.as_slice-log-items.ensures.value ∙ runs) at (slice_get_read c.as_slice-log-items.result.now _ c.loop-k.k c.log-item.result refl c.loop-k-test.true c.log-item.is) in
    rw (c.as_slice-log-items.ensures.value ∙ runs) (holds_more _ _ _ _ at
    (λ ready. (let h = (head_ready _ _ rising c.requires.table _ c.requires.sound.fits _ c.requires.counts _ _ _ _ c.head_of-head.ensures at c.if-is_unkept.ensures).1 ready in cc))
    (rw (c.as_slice-log-items.ensures.value ∙ runs) at c.loop-k.invariant))

pub returns-clause-none : goal.returns-clause-none
returns-clause-none c =
    let runs = ap (λ (r : RunRecord). r.logs) c.run.view_is in
    none_ready_end _ _ _ (rw runs at c.as_slice-log-items.ensures.run.rising) c.requires.sound.fits (rw (c.as_slice-log-items.ensures.value ∙ runs) at c.loop-k-test.false) (rw (c.as_slice-log-items.ensures.value ∙ runs) at c.loop-k.invariant)
