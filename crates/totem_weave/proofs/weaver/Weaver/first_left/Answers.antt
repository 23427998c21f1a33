use Rattle.totem_weave.proofs.Common.{ℕ, inl, inr, sym, subst, arith, cases_eq, IsThrough}
use Rattle.totem_weave.proofs.Underway.{through_there, left_there}
use Rattle.totem_weave.proofs.weaver.Weaver.first_left.Goals as goal

pub returns-then-not-is_through-clause-left : goal.returns-then-not-is_through-clause-left
returns-then-not-is_through-clause-left c =
    left_there c.args.tracks.now c.args.self.now c.loop-place.place c.index-tracks-place.result c.index.result.now c.deref.result.now
    c.requires.under_way (omega arith) c.index-tracks-place.is c.index.ensures c.deref.ensures.value c.if-not-is_through.ensures c.loop-place.invariant

pub loop-place-preserved : goal.loop-place-preserved
loop-place-preserved c k below = elim (cases_eq k c.loop-place.place) [
  | inl here ↦ (
      let P : ℕ → Type 0 = λ n. IsThrough c.args.tracks.now c.args.self.now n in
      subst P (sym here)
      (through_there c.args.tracks.now c.args.self.now c.loop-place.place c.index-tracks-place.result c.index.result.now c.deref.result.now
      c.requires.apart c.requires.under_way (omega arith) c.index-tracks-place.is c.index.ensures c.deref.ensures.value c.if-not-is_through.ensures)
      )
  | inr other ↦ c.loop-place.invariant k (omega arith)
]
