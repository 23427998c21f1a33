-- What a map has after an insertion.
use Rattle.totem_stitch.proofs.Common.{◌≡◌, ◌⊎◌, inl, inr, Option, Some, Bool, true, false, refl, sym, ◌∙◌, ap, subst, BTreeMap, is_at}
use Rattle.std.specs.declared.cmp.Ordering.{Ordering}
use Rattle.std.specs.declared.cmp.Ordering.TheVariants.{Less, Equal, Greater}
use Rattle.std.specs.Ordering.{is_eq}
use Rattle.std.specs.BTreeMap as tree
use Rattle.std.proofs.lemmas.Map.Lookups.{CmpEqualImpliesEq}

equal_at : (o : Ordering) → is_eq o ≡ true → o ≡ Equal
equal_at Less e = absurd cc
equal_at Equal e = refl
equal_at Greater e = absurd cc

apart_or_at : (b : Bool) → (b ≡ true) ⊎ (b ≡ false)
apart_or_at true = inl refl
apart_or_at false = inr refl

-- what holds at the new entry, and still holds at every other one, holds at every entry
pub everywhere : {K X : Type 0} (cmp : K → K → Ordering) → CmpEqualImpliesEq cmp → (P : K → Option X → Type 0) (m n : BTreeMap K X) (k : K) (w : X) → tree.Updates cmp m n k (Some w) → P k (Some w)
    → ((q : K) → (q ≡ k → tree.get cmp m q ≡ Some w) → P q (tree.get cmp m q)) → (q : K) → P q (tree.get cmp n q)
everywhere {K} {X} cmp exact P m n k w h here others q = elim (apart_or_at (is_at (cmp k) q)) [
  | inl at ↦ (let same : k ≡ q = exact k q (equal_at (cmp k q) at) in subst (λ (z : K). P z (tree.get cmp n z)) same (subst (λ (o : Option X). P k o) (sym h.1) here))
  | inr apart ↦ subst (λ (o : Option X). P q o) (sym (h.2 q apart)) (others q (λ e. sym (h.2 q apart) ∙ ap (λ (z : K). tree.get cmp n z) e ∙ h.1))
]
