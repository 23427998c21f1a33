-- Sets of processes, by what they contain.
use Rattle.totem_evs.proofs.Common.{Contains, IsTrue, ◌↔◌, ◌≡◌, ◌≢◌, ◌⊎◌, ℕ, Bool, true, false, inl, inr, refl, sym, ◌∙◌, subst, arith}
use Rattle.std.specs.declared.cmp.Ordering.{Ordering}
use Rattle.std.specs.Cmp.{IsTotalOrder}
use Rattle.std.specs.BTreeMap.{is_at}
use Rattle.std.specs.BTreeSet.{BTreeSet, contains, Updates}
use Rattle.std.proofs.lemmas.Map.Views.{btree_set_contains_iff}
use Rattle.std.proofs.lemmas.Map.Lookups.{CmpEqualImpliesEq}

module _ (cmp : ℕ → ℕ → Ordering) (total : IsTotalOrder cmp) (exact : CmpEqualImpliesEq cmp) where
  has : (s : BTreeSet ℕ) (q : ℕ) → IsTrue (contains cmp s q) ↔ Contains s.keys q
  has s q = btree_set_contains_iff total exact s q

  at_is : (p q : ℕ) → is_at (cmp p) q ≡ true → p ≡ q
  at_is p q e = exact p q (grind (arith, e))

  -- one more
  pub added : (s n : BTreeSet ℕ) (p : ℕ) → Updates cmp s n p true → (q : ℕ) → Contains n.keys q ↔ (Contains s.keys q ⊎ (q ≡ p))
  added s n p h q = (λ c. forward (is_at (cmp p) q) refl ((has n q).1 c), λ c. elim c [ inl old ↦ (has n q).0 (backward (is_at (cmp p) q) refl ((has s q).1 old)) | inr same ↦ subst (λ (x : ℕ). Contains n.keys x) (sym same) ((has n p).0 h.1) ])
    where
      forward : (t : Bool) → is_at (cmp p) q ≡ t → contains cmp n q ≡ true → Contains s.keys q ⊎ (q ≡ p)
      forward true e c = inr (sym (at_is p q e))
      forward false e c = inl ((has s q).0 (sym (h.2 q e) ∙ c))

      backward : (t : Bool) → is_at (cmp p) q ≡ t → contains cmp s q ≡ true → contains cmp n q ≡ true
      backward true e c = let k = h.0 q in cc
      backward false e c = h.2 q e ∙ c

  -- one less
  pub removed : (s n : BTreeSet ℕ) (p : ℕ) → Updates cmp s n p false → (q : ℕ) → Contains n.keys q ↔ (Contains s.keys q × (q ≢ p))
  removed s n p h q = (λ c. forward (is_at (cmp p) q) refl ((has n q).1 c), λ c. (has n q).0 (backward (is_at (cmp p) q) refl ((has s q).1 c.0) c.1))
    where
      forward : (t : Bool) → is_at (cmp p) q ≡ t → contains cmp n q ≡ true → Contains s.keys q × (q ≢ p)
      forward true e c = absurd (let k = h.1 in let same = at_is p q e in let d : contains cmp n p ≡ true = subst (λ (x : ℕ). contains cmp n x ≡ true) (sym same) c in cc)
      forward false e c = ((has s q).0 (sym (h.2 q e) ∙ c), λ same. absurd (let k = h.1 in let d : contains cmp n p ≡ true = subst (λ (x : ℕ). contains cmp n x ≡ true) same c in cc))

      backward : (t : Bool) → is_at (cmp p) q ≡ t → contains cmp s q ≡ true → q ≢ p → contains cmp n q ≡ true
      backward true e c other = absurd (other (sym (at_is p q e)))
      backward false e c other = h.2 q e ∙ c
