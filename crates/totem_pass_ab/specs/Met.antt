-- What was recorded under a key: one value, or several (docs/SPECIFICATIONS.md, "Faults").
use Rattle.std.specs.Prelude.{◌≡◌, ◌≢◌, ◌⊎◌, Option, Some, None}
use Rattle.std.specs.declared.cmp.Ordering.{Ordering}
use Rattle.std.specs.BTreeMap.{BTreeMap, IsUnchanged, Updates}
use Rattle.std.specs.BTreeMap as tree

module _ {K V : Type 0} (cmp : K → K → Ordering) where
  -- v is recorded under k: either v is kept as the only value, or the fact that there are several
  abbrev pub IsMet : BTreeMap K (Option V) → BTreeMap K (Option V) → K → V → Type 0
  IsMet m n k v =
      ((tree.get cmp m k ≡ None) × Updates cmp m n k (Some (Some v)))
      ⊎ ((tree.get cmp m k ≡ Some (Some v)) × IsUnchanged m n)
      ⊎ ((w : V) × (tree.get cmp m k ≡ Some (Some w)) × (w ≢ v) × Updates cmp m n k (Some None))
      ⊎ ((tree.get cmp m k ≡ Some None) × IsUnchanged m n)

  -- v was recorded under k
  pub record Knows (m : BTreeMap K (Option V)) (k : K) (v : V) : Type 0 where
    pub met : tree.get cmp m k ≢ None
    pub only : (w : V) → tree.get cmp m k ≡ Some (Some w) → w ≡ v
