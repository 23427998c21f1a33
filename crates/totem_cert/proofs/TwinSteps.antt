-- Different deliveries of one message among the neighbours of a closed list.
use Rattle.totem_cert.proofs.Common.{◌≡◌, ℕ, zero, suc, ◌+◌, ◌<◌, ◌≤◌, ◌⊎◌, inl, inr, List, [], ◌∷◌, length, get_or, slice_get, Option, Some, None, Bool, true, false, IsTrue, ◌↔◌, refl, ◌∙◌, ap, arith, IfSome, IfNone, slice_get_within, slice_get_read, MsgId, Place, Entry, Conf, Send, Deliver, Fail, Log, log_of, DeliversAt, HoldsTo, holds_more, place, AreTwinDeliveries, HasTwinDeliveries, NeverDelivers, StandsNext, BothAre, message_of}
use Rattle.totem_evs.specs.Places.{Somewhere}
use Rattle.totem_cert.proofs.LineFacts.{same_parts}
use Rattle.totem_cert.proofs.Classmates.{one_message}

-- no event of a closed list before the i-th delivers the message that the next one delivers too
abbrev pub NoTwinsBefore : List Log → List Place → ℕ → Type 0
NoTwinsBefore run places i = HoldsTo (λ (j : ℕ) (e : Place). (f : Place) → StandsNext places j f → AreTwinDeliveries run e f → ⊥) places i

somewhere_at : (Step : Place → Place → Type 0) (e : Place) (es : List Place) (z : Place) (i : ℕ) (a b : Place) → slice_get (e ∷ es) i ≡ Some a → (slice_get es i ≡ Some b) ⊎ ((length es ≡ i) × (z ≡ b)) → Step a b → Somewhere Step e es z
somewhere_at Step e [] z i a b at next step = grind arith
somewhere_at Step e (f ∷ fs) z zero a b at next step = grind arith
somewhere_at Step e (f ∷ fs) z (suc i) a b at next step = grind (arith, somewhere_at Step f fs z i a b)

somewhere_where : (Step : Place → Place → Type 0) (e : Place) (es : List Place) (z : Place) → Somewhere Step e es z → (i : ℕ) × (a b : Place) × (slice_get (e ∷ es) i ≡ Some a) × ((slice_get es i ≡ Some b) ⊎ ((length es ≡ i) × (z ≡ b))) × Step a b
somewhere_where Step e [] z h = (0, e, z, refl, inr (refl, refl), h)
somewhere_where Step e (f ∷ fs) z (inl h) = (0, e, f, refl, inl refl, h)
somewhere_where Step e (f ∷ fs) z (inr h) = let r = somewhere_where Step f fs z h in
    (suc r.0, r.1, r.2, r.3, elim r.4 [ inl at ↦ inl at | inr (l, same) ↦ inr (omega arith, same) ], r.5)

pub twins_found : (run : List Log) (places : List Place) (i : ℕ) (e f : Place) → slice_get places i ≡ Some e → StandsNext places i f → AreTwinDeliveries run e f → HasTwinDeliveries run places
twins_found run [] i e f at next twins = cc
twins_found run (x ∷ xs) i e f at next twins = grind (arith, somewhere_at (AreTwinDeliveries run) x xs x i e f)

pub twins_none : (run : List Log) (places : List Place) (i : ℕ) → length places ≤ i → NoTwinsBefore run places i → HasTwinDeliveries run places → ⊥
twins_none run [] i le none h = h
twins_none run (x ∷ xs) i le none h =
    let r = somewhere_where (AreTwinDeliveries run) x xs x h in
    let s : r.0 + 1 ≡ suc r.0 = omega arith in
    let lt = slice_get_within (x ∷ xs) r.0 r.1 r.3 in
    none.each r.0 r.1 (omega arith) r.3 r.2 (elim r.4 [ inl at ↦ inl (rw s at) | inr (l, same) ↦ inr (omega arith, ap Some same) ]) r.5

one_next : (xs : List Place) (i : ℕ) (b f : Place) → StandsNext xs i b → StandsNext xs i f → b ≡ f
one_next xs i b f h k = grind (arith, slice_get_within)

pub twins_more : (run : List Log) (places : List Place) (i : ℕ) (e f : Place) → i < length places → e ≡ get_or places i e → StandsNext places i f → (IsTrue false ↔ AreTwinDeliveries run e f) → NoTwinsBefore run places i → NoTwinsBefore run places (i + 1)
twins_more run places i e f within read next not_twins before =
    holds_more _ places i e (slice_get_read places _ i e refl within read) (λ b next_b twins. (let same : b ≡ f = one_next places i b f next_b next in let h = not_twins.1 (rw same at twins) in cc)) before

pub twins_here : (run : List Log) (places : List Place) (i : ℕ) (e f : Place) → i < length places → e ≡ get_or places i e → StandsNext places i f → (IsTrue true ↔ AreTwinDeliveries run e f) → IsTrue true ↔ HasTwinDeliveries run places
twins_here run places i e f within read next twins = (λ _. twins_found run places i e f (slice_get_read places _ i e refl within read) next (twins.0 refl), λ _. refl)

pub twins_not : (run : List Log) (places : List Place) (i : ℕ) → length places ≤ i → NoTwinsBefore run places i → IsTrue false ↔ HasTwinDeliveries run places
twins_not run places i le none = (λ h. absurd cc, λ h. absurd (twins_none run places i le none h))

pub found_message : (run : List Log) (e : Place) (x : Entry) (i : ℕ) (r : Option MsgId) → r ≡ message_of x → slice_get (log_of run e.proc) i ≡ Some x → e.at ≡ suc i → IfSome r (λ m. DeliversAt run e m)
found_message run e (Conf y ms) i r is at at_e = rw is tt
found_message run e (Send m y s) i r is at at_e = rw is tt
found_message run e (Fail y) i r is at at_e = rw is tt
found_message run e (Deliver m y) i r is at at_e =
    let here : DeliversAt run (place e.proc i) m = (y, at) in
    let there : DeliversAt run e m = rw (same_parts e e.proc (suc i) refl at_e) here in
    rw is there

pub twins_decided : (run : List Log) (e f : Place) (m n : Option MsgId) (r : Bool) → IfSome m (λ k. DeliversAt run e k) → IfNone m (NeverDelivers run e) → IfSome n (λ k. DeliversAt run f k) → IfNone n (NeverDelivers run f)
    → (IsTrue false ↔ (e ≡ f)) → (IsTrue r ↔ BothAre m n) → IsTrue r ↔ AreTwinDeliveries run e f
twins_decided run e f (Some m) (Some n) r a b c d same both = (
  λ h. (let s : m ≡ n = both.0 h in (m, a, rw s c, λ eq. (let t = same.1 eq in cc))),
  λ (k, x, y, other). both.1 (one_message run e m k a x ∙ one_message run f k n y c),
)
twins_decided run e f (Some m) None r a b c d same both = (λ h. absurd (both.0 h), λ (k, x, y, other). absurd (d.never k y))
twins_decided run e f None n r a b c d same both = (λ h. absurd (both.0 h), λ (k, x, y, other). absurd (b.never k x))
