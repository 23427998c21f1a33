use Rattle.totem_pass_ab.proofs.Common.{[], ◌∷◌, IfOk-weaker}
use Rattle.totem_evs.specs.declared.spec.SpecNo.TheVariants as spec
use Rattle.totem_search.proofs.Listing.{lists_then}
use Rattle.totem_pass_ab.proofs.pass.pass_a_of.Goals as goal

pub returns : goal.returns
returns c =
    let run = c.args.run.now.logs in
    let one = lists_then run [] spec.Twice _ _ _ c.in_ok-sends.ensures c.in_ok-once.ensures c.new.ensures.items in
    let two = lists_then run (spec.Twice ∷ []) spec.End _ _ _ c.in_ok-last.ensures c.in_ok-find.ensures one in
    let three = lists_then run (spec.Twice ∷ spec.End ∷ []) spec.Misplaced _ _ _ c.in_ok-places.ensures c.in_ok-find-2.ensures two in
    let four = lists_then run (spec.Twice ∷ spec.End ∷ spec.Misplaced ∷ []) spec.Configuration _ _ _ c.in_ok-forms.ensures c.in_ok-two_forms.ensures three in
    IfOk-weaker c.with_found-5.result _ _
    (λ list is. lists_then run (spec.Twice ∷ spec.End ∷ spec.Misplaced ∷ spec.Configuration ∷ []) spec.Turns _ list.items _ is c.in_ok-turns.ensures four)
    c.with_found-5.ensures
