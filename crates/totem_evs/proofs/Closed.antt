-- Closed lists of steps.
use Rattle.totem_evs.proofs.Common.{ℕ, ◌<◌, ◌≤◌, ◌⊎◌, inl, inr, List, [], ◌∷◌, arith, Place, Strict, Twin, Leads, here, strict, twin, Precedes, Numbers}
use Rattle.totem_evs.specs.declared.log.Log.{Log}
use Rattle.totem_evs.specs.Places.{Chain, Somewhere, IsClosed, IsStep, IsOrderStep}
use Rattle.totem_evs.specs.Delivery.{NoCycle}

leads : (run : List Log) (e f : Place) (es : List Place) → Chain (IsStep run) e es f → Leads run e f
leads run e f [] (inl s) = strict s here
leads run e f [] (inr t) = twin t here
leads run e f (g ∷ gs) (inl s, rest) = strict s (leads run g f gs rest)
leads run e f (g ∷ gs) (inr t, rest) = twin t (leads run g f gs rest)

leads_before : (run : List Log) (e f g : Place) → (Strict run e f ⊎ Twin run e f) → Precedes run f g → Precedes run e g
leads_before run e f g (inl s) (a, b, to_a, one, from_b) = (a, b, strict s to_a, one, from_b)
leads_before run e f g (inr t) (a, b, to_a, one, from_b) = (a, b, twin t to_a, one, from_b)

chain_precedes : (run : List Log) (e f : Place) (es : List Place) → Chain (IsStep run) e es f → Somewhere (Strict run) e es f → Precedes run e f
chain_precedes run e f [] chain s = (e, f, here, s, here)
chain_precedes run e f (g ∷ gs) (one, rest) (inl s) = (e, g, here, s, leads run g f gs rest)
chain_precedes run e f (g ∷ gs) (one, rest) (inr more) = leads_before run e g f one (chain_precedes run g f gs rest more)

-- an event of such a list precedes itself
pub closed_cycles : (run : List Log) (places : List Place) → NoCycle run → IsClosed run (IsStep run) places → ⊥
closed_cycles run [] never h = h
closed_cycles run (e ∷ es) never (chain, some) = never e (chain_precedes run e e es chain some)

-- numbers never fall along such a list, and somewhere they increase
module _ (run : List Log) (ord : Place → ℕ) (numbers : Numbers run ord) where
  strict_up : (e f : Place) → Strict run e f → ord e < ord f
  strict_up e f s = numbers.rises e f (e, f, here, s, here)

  step_up : (e f : Place) → IsOrderStep run e f → ord e ≤ ord f
  step_up e f (inl (inl s)) = let h = strict_up e f s in omega arith
  step_up e f (inl (inr (x, at_e, at_f, other))) = let h = numbers.shared e f (inl (x, at_e, at_f)) in omega arith
  step_up e f (inr (m, at_e, at_f, other)) = let h = numbers.shared e f (inr (m, at_e, at_f)) in omega arith

  chain_up : (e f : Place) (es : List Place) → Chain (IsOrderStep run) e es f → ord e ≤ ord f
  chain_up e f [] one = step_up e f one
  chain_up e f (g ∷ gs) (one, rest) = let a = step_up e g one in let b = chain_up g f gs rest in omega arith

  closed_up : (e f : Place) (es : List Place) → Chain (IsOrderStep run) e es f → Somewhere (Strict run) e es f → ord e < ord f
  closed_up e f [] one s = strict_up e f s
  closed_up e f (g ∷ gs) (one, rest) (inl s) = let a = strict_up e g s in let b = chain_up g f gs rest in omega arith
  closed_up e f (g ∷ gs) (one, rest) (inr more) = let a = step_up e g one in let b = closed_up g f gs rest more in omega arith

  pub closed_rises : (places : List Place) → IsClosed run (IsOrderStep run) places → ⊥
  closed_rises [] h = h
  closed_rises (e ∷ es) (chain, some) = let up = closed_up e e es chain some in omega arith
