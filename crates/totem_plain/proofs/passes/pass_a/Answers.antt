use Rattle.totem_plain.proofs.Common.{[], ◌∷◌, IfOk-weaker, lists_then}
use Rattle.totem_evs.specs.declared.spec.SpecNo.TheVariants as spec
use Rattle.totem_plain.proofs.passes.pass_a.Goals as goal

pub returns : goal.returns
returns c =
    let run = c.args.run.now.logs in
    let one = lists_then run [] spec.Twice _ _ _ c.in_ok-faults.ensures c.in_ok-twice.ensures c.new.ensures.items in
    let two = lists_then run (spec.Twice ∷ []) spec.End _ _ _ c.in_ok-faults-2.ensures c.in_ok-find.ensures one in
    let three = lists_then run (spec.Twice ∷ spec.End ∷ []) spec.Misplaced _ _ _ c.in_ok-faults-3.ensures c.in_ok-find-2.ensures two in
    let four = lists_then run (spec.Twice ∷ spec.End ∷ spec.Misplaced ∷ []) spec.Configuration _ _ _ c.in_ok-faults-4.ensures c.in_ok-configuration.ensures three in
    IfOk-weaker c.with_found-5.result _ _
    (λ list is. lists_then run (spec.Twice ∷ spec.End ∷ spec.Misplaced ∷ spec.Configuration ∷ []) spec.Turns _ list.items _ is c.in_ok-find_turns.ensures four)
    c.with_found-5.ensures
