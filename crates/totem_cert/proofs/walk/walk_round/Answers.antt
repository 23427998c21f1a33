use Rattle.totem_cert.proofs.Common.{ap, sym, ◌∙◌, Step}
use Rattle.totem_cert.proofs.Walking.{round, left_next, walking_more}
use Rattle.totem_cert.proofs.Noting.{not_visited, noted_more}
use Rattle.totem_cert.proofs.walk.walk_round.Goals as goal

pub returns-in-Some : goal.returns-in-Some
returns-in-Some c =
    let to = ap (λ (v : Step). v.to) c.next.view_is in
    round _ _ _ _ _ c.steps.invariant.walking (c.steps.invariant.noted.only _ _ (sym (rw to at c.in-Some.ensures)))

pub step_of-next-requires-in-steps-clause-left : goal.step_of-next-requires-in-steps-clause-left
step_of-next-requires-in-steps-clause-left c =
    let to = ap (λ (v : Step). v.to) c.next.view_is in
    let from = ap (λ (v : Step). v.from) c.next-in-steps.view_is in
    let fresh = not_visited _ _ _ c.steps.invariant.noted (rw to at c.in_default.ensures) in
    rw from (left_next _ _ _ _ c.steps.invariant.walking fresh)

pub steps-preserved : goal.steps-preserved
steps-preserved c =
    let to = ap (λ (v : Step). v.to) c.next.view_is in
    let from = ap (λ (v : Step). v.from) c.next-in-steps.view_is in
    let fresh = not_visited _ _ _ c.steps.invariant.noted (rw to at c.in_default.ensures) in
    rw c.in_ok-push.ensures.items (record {
      walking = walking_more _ _ _ _ c.steps.invariant.walking fresh _ (rw from at c.step_of-next-in-steps.ensures);
      noted = noted_more _ _ _ _ c.steps.invariant.noted fresh (rw (to, c.len.ensures ∙ c.steps.steps.ok.0) at c.in_ok-insert.ensures.updates);
    })
