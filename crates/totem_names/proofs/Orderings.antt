-- The orders of names are strict and total.
use Rattle.totem_names.proofs.Common.{◌⊎◌, ◌≡◌, ℕ, ◌<◌, inl, inr, sym, ap, subst, ◌∙◌, arith, cases_lt, RingName, MessageName, PlaceName}
use Rattle.totem_names.specs.Orders.{RingBelow, MessageBelow, PlaceBelow, ConfBelow, IsStrictOrder}

pub numbers : IsStrictOrder (λ (a b : ℕ). a < b)
numbers = grind (arith, cases_lt)

-- by one part, and then by another
by_parts : {Y A B : Type 0} (R : A → A → Type 0) (S : B → B → Type 0) (f : Y → A) (g : Y → B) → IsStrictOrder R → IsStrictOrder S
    → ((a b : Y) → f a ≡ f b → g a ≡ g b → a ≡ b) → IsStrictOrder (λ (a b : Y). R (f a) (f b) ⊎ ((f a ≡ f b) × S (g a) (g b)))
by_parts {Y = Y} {A = A} R S f g first second same = record { strict = strict; goes_on = goes_on; total = λ a b. total a b (first.total (f a) (f b)) }
  where
    strict : (a : Y) → R (f a) (f a) ⊎ ((f a ≡ f a) × S (g a) (g a)) → ⊥
    strict a (inl h) = first.strict (f a) h
    strict a (inr h) = second.strict (g a) h.1

    goes_on : (a b c : Y) → R (f a) (f b) ⊎ ((f a ≡ f b) × S (g a) (g b)) → R (f b) (f c) ⊎ ((f b ≡ f c) × S (g b) (g c)) → R (f a) (f c) ⊎ ((f a ≡ f c) × S (g a) (g c))
    goes_on a b c (inl h) (inl k) = inl (first.goes_on (f a) (f b) (f c) h k)
    goes_on a b c (inl h) (inr k) = inl (subst (λ (x : A). R (f a) x) k.0 h)
    goes_on a b c (inr h) (inl k) = inl (subst (λ (x : A). R x (f c)) (sym h.0) k)
    goes_on a b c (inr h) (inr k) = inr (h.0 ∙ k.0, second.goes_on (g a) (g b) (g c) h.1 k.1)

    total : (a b : Y) → R (f a) (f b) ⊎ ((f a ≡ f b) ⊎ R (f b) (f a))
        → (R (f a) (f b) ⊎ ((f a ≡ f b) × S (g a) (g b))) ⊎ ((a ≡ b) ⊎ (R (f b) (f a) ⊎ ((f b ≡ f a) × S (g b) (g a))))
    total a b (inl h) = inl (inl h)
    total a b (inr (inr h)) = inr (inr (inl h))
    total a b (inr (inl e)) = elim (second.total (g a) (g b)) [
      | inl h ↦ inl (inr (e, h))
      | inr rest ↦ elim rest [ inl k ↦ inr (inl (same a b e k)) | inr h ↦ inr (inr (inr (sym e, h))) ]
    ]

abbrev ring_of : ℕ → ℕ → RingName
ring_of x y = record { seq = x; rep = y }

same_ring : (a b : RingName) → a.seq ≡ b.seq → a.rep ≡ b.rep → a ≡ b
same_ring a b e k = ap (λ (x : ℕ). ring_of x a.rep) e ∙ ap (ring_of b.seq) k

pub ring_strict : IsStrictOrder RingBelow
ring_strict = by_parts (λ (a b : ℕ). a < b) (λ (a b : ℕ). a < b) (λ (c : RingName). c.seq) (λ (c : RingName). c.rep) numbers numbers same_ring

abbrev message_of : RingName → ℕ → MessageName
message_of x y = record { ring = x; number = y }

same_message : (a b : MessageName) → a.ring ≡ b.ring → a.number ≡ b.number → a ≡ b
same_message a b e k = ap (λ (x : RingName). message_of x a.number) e ∙ ap (message_of b.ring) k

pub message_strict : IsStrictOrder MessageBelow
message_strict = by_parts RingBelow (λ (a b : ℕ). a < b) (λ (m : MessageName). m.ring) (λ (m : MessageName). m.number) ring_strict numbers same_message

abbrev place_of : ℕ → ℕ → PlaceName
place_of x y = record { proc = x; at = y }

same_place : (a b : PlaceName) → a.proc ≡ b.proc → a.at ≡ b.at → a ≡ b
same_place a b e k = ap (λ (x : ℕ). place_of x a.at) e ∙ ap (place_of b.proc) k

pub place_strict : IsStrictOrder PlaceBelow
place_strict = by_parts (λ (a b : ℕ). a < b) (λ (a b : ℕ). a < b) (λ (e : PlaceName). e.proc) (λ (e : PlaceName). e.at) numbers numbers same_place

-- a ring and a process, as of transitional configurations
pairs : IsStrictOrder (λ (a b : RingName × ℕ). RingBelow a.0 b.0 ⊎ ((a.0 ≡ b.0) × (a.1 < b.1)))
pairs = grind (arith, by_parts, ring_strict, numbers)

pub conf_strict : IsStrictOrder ConfBelow
conf_strict = grind (arith, ring_strict, numbers, pairs)
