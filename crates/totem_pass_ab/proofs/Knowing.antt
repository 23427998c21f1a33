-- What is known about the values that were recorded under a key stays known.
use Rattle.totem_pass_ab.proofs.Common.{◌≡◌, inl, inr, Option, Some, None, true, refl, sym, ◌∙◌, Ordering, IsTotalOrder, BTreeMap, is_at, IsUnchanged, equal_at, apart_or_at, IsMet, Knows}
use Rattle.std.specs.HashMap.Eq.{lookup_congr}
use Rattle.std.specs.BTreeMap as tree

-- equal keys have one value
pub same_get : {K X : Type 0} (cmp : K → K → Ordering) → IsTotalOrder cmp → (m : BTreeMap K X) (k q : K) → is_at (cmp k) q ≡ true → tree.get cmp m q ≡ tree.get cmp m k
same_get cmp total m k q e = sym (lookup_congr (λ x. is_at (cmp x)) (λ x y z at. let same = total.congr x y z (equal_at (cmp x y) at) in cc) m.entries k q e)

module _ {K V : Type 0} (cmp : K → K → Ordering) (total : IsTotalOrder cmp) where
  unchanged : (m n : BTreeMap K (Option V)) → IsUnchanged m n → (q : K) → tree.get cmp n q ≡ tree.get cmp m q
  unchanged m n same q = rw same refl

  pub meets_knows : (m n : BTreeMap K (Option V)) (k : K) (v : V) → IsMet cmp m n k v → Knows cmp n k v
  meets_knows m n k v (inl (none, new)) = record { met = λ e. let h = new.1 in cc; only = λ w e. let h = new.1 in cc }
  meets_knows m n k v (inr (inl (is, same))) = let u = unchanged m n same k in record { met = λ e. cc; only = λ w e. cc }
  meets_knows m n k v (inr (inr (inl (w, is, other, new)))) = record { met = λ e. let h = new.1 in cc; only = λ x e. absurd (let h = new.1 in cc) }
  meets_knows m n k v (inr (inr (inr (is, same)))) = let u = unchanged m n same k in record { met = λ e. cc; only = λ w e. absurd cc }

  same_known : (m n : BTreeMap K (Option V)) (q : K) (w : V) → tree.get cmp n q ≡ tree.get cmp m q → Knows cmp m q w → Knows cmp n q w
  same_known m n q w same old = record { met = λ e. old.met cc; only = λ x e. old.only x cc }

  pub meets_keeps : (m n : BTreeMap K (Option V)) (k : K) (v : V) → IsMet cmp m n k v → (q : K) (w : V) → Knows cmp m q w → Knows cmp n q w
  meets_keeps m n k v (inl (none, new)) q w old = elim (apart_or_at cmp k q) [
    | inr apart ↦ same_known m n q w (new.2 q apart) old
    | inl at ↦ absurd (old.met (same_get cmp total m k q at ∙ none))
  ]
  meets_keeps m n k v (inr (inl (is, same))) q w old = same_known m n q w (unchanged m n same q) old
  meets_keeps m n k v (inr (inr (inl (x, is, other, new)))) q w old = elim (apart_or_at cmp k q) [
    | inr apart ↦ same_known m n q w (new.2 q apart) old
    | inl at ↦ (let here : tree.get cmp n q ≡ Some None = same_get cmp total n k q at ∙ new.1 in record { met = λ e. cc; only = λ y e. absurd cc })
  ]
  meets_keeps m n k v (inr (inr (inr (is, same)))) q w old = same_known m n q w (unchanged m n same q) old
