use Rattle.totem_judge.proofs.Common.{◌≡◌, ◌∷◌, [], List, length, refl, sym, ap, subst, ◌∙◌, append_assoc, append-nil, arith, AreObserved}
use Rattle.std.specs.Vec.Iter.{into_iter_items}
use Rattle.std.proofs.lemmas.List.{nil_from_length}
use Rattle.totem_judge.specs.declared.gathered.Gathered.{Gathered}
use Rattle.totem_judge.proofs.OneByOne.{observed_none, observed_more}
use Rattle.totem_judge.proofs.judging.observe_all.Goals as goal

pub loop-gathered-init : goal.loop-gathered-init
loop-gathered-init c =
    let gives = c.into_iter-gathered-iterator.ensures.into_iter_gives in
    (refl, observed_none c.args.logs.now c.args.lines.now c.new-observed.result.items c.new-pending.result.items c.new-observed.ensures.items c.new-pending.ensures.items, omega (arith, gives.1, ap length gives.0))

pub loop-gathered-preserved : goal.loop-gathered-preserved
loop-gathered-preserved c =
    let at = c.loop-gathered in
    let x = c.in-Some.gathered in
    let steps : into_iter_items at.gathered-iterator ≡ x ∷ into_iter_items c.next.new.self = c.in-Some.ensures.steps.0 in (
      append_assoc at.yielded (x ∷ []) _ ∙ rw (← steps) at.invariant.0,
      rw c.in_ok-push.ensures.items (observed_more c.args.logs.now c.args.lines.now at.yielded x at.observed.items c.in-Some-2.one at.pending.items c.observe_one.new.pending.items (rw c.in-Some-2.is at c.in_ok-one.ensures) at.invariant.1),
      let was = at.invariant.2 in
          let gone = c.in-Some.ensures.steps.1 in
          let short = ap length steps in
          omega arith,
    )

pub returns : goal.returns
returns c =
    let at = c.loop-gathered in
    let none = c.in-None.ensures.steps in
    let empty : into_iter_items at.gathered-iterator ≡ [] = nil_from_length _ (sym at.invariant.2 ∙ none.0) in
    let all = sym (append-nil at.yielded) ∙ rw empty at at.invariant.0 ∙ c.into_iter-gathered-iterator.ensures.into_iter_gives.0 in
    subst (λ (l : List Gathered). AreObserved c.args.logs.now c.args.lines.now l at.observed.items at.pending.items) all at.invariant.1
