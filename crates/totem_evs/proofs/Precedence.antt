-- What precedes what, in every run.
use Rattle.totem_evs.proofs.Common.{◌≡◌, ◌⊎◌, inl, inr, ℕ, List, sym, arith, ConfId, Place, ChangesAt, Twin, Leads, here, strict, twin, Precedes, EachLogIsOrdered, EachTwinsAgree}
use Rattle.totem_evs.specs.declared.log.Log.{Log}

pub each_log_ordered : EachLogIsOrdered
each_log_ordered run e f is_e is_f before = (e, f, here, inl (is_e, is_f, before), here)

-- a list of steps, and one twin step more at its end
leads_on : (run : List Log) (e f g : Place) → Leads run e f → Twin run f g → Leads run e g
leads_on run e f g here last = twin last here
leads_on run e f g (strict one rest) last = strict one (leads_on run _ f g rest last)
leads_on run e f g (twin one rest) last = twin one (leads_on run _ f g rest last)

same_or_not : (m n : ℕ) → (m ≡ n) ⊎ (m ≡ n → ⊥)
same_or_not m n = grind arith

place_is : (e f : Place) → e.proc ≡ f.proc → e.at ≡ f.at → e ≡ f
place_is e f procs ats = grind arith

-- two places are one, or not
one_place : (e f : Place) → (e ≡ f) ⊎ (e ≡ f → ⊥)
one_place e f = grind (arith, same_or_not, place_is)

pub each_twins_agree : EachTwinsAgree
each_twins_agree run = record { before = before; after = after }
  where
    before : (a e f : Place) (x : ConfId) → ChangesAt run e x → ChangesAt run f x → Precedes run a e → Precedes run a f
    before a e f x at_e at_f (b, c, to_b, one, from_c) = elim (one_place e f) [
      | inl same ↦ (b, c, to_b, one, rw same at from_c)
      | inr other ↦ (b, c, to_b, one, leads_on run c e f from_c (x, at_e, at_f, other))
    ]

    after : (a e f : Place) (x : ConfId) → ChangesAt run e x → ChangesAt run f x → Precedes run e a → Precedes run f a
    after a e f x at_e at_f (b, c, to_b, one, from_c) = elim (one_place f e) [
      | inl same ↦ (b, c, rw (sym same) at to_b, one, from_c)
      | inr other ↦ (b, c, twin (x, at_f, at_e, other) to_b, one, from_c)
    ]
