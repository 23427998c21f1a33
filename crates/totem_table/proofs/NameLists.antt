-- Lists of names in ascending order.
use Rattle.totem_table.proofs.Common.{◌≡◌, ℕ, zero, suc, ◌+◌, ◌≤◌, inl, inr, List, [], ◌∷◌, length, get_or, slice_get, Some, Bool, false, Result, Ok, Err, sym, ap, ◌∙◌, arith, MatchResult, Contains, flat_map, common_steps, Ordering, Less, Equal, Greater, slice_get-get_or, slice_get_within, get_or_from_slice_get, Contains-append_left, Contains-append_right, less_or_not, Along, Rises, ListsNames}
use Rattle.std.specs.Cmp.{IsEquivalence, IsTotalOrder, tied_itself}
use Rattle.std.specs.Ordering.{is_lt, eq_by_cmp, ordering_reverse}
use Rattle.std.specs.List.Retain.{IsFiltered, DiffersFromLast}
use Rattle.std.specs.List.Sorted.{IsPermutation, IsSorted, IsSortedBy, IsStrictlySortedBy, IsBinarySearchResult, IsSearchInRange}
use Rattle.std.proofs.lemmas.Map.Keys.{Less-from_sorted}
use Rattle.std.proofs.lemmas.List.Filters.{dedup_is}
use Rattle.std.proofs.lemmas.List.Kept.{IsStrictlySortedBy-dedup, Contains-dedup}
use Rattle.std.proofs.lemmas.List.Sorted.{Contains-permutation, searchable_from_sorted}
use Rattle.totem_names.proofs.Exact.{equal_at}

-- what f gives for the element at an index is among what it gives for all
gives_at : {A X : Type 0} (f : A → List X) (xs : List A) (i : ℕ) (a : A) (x : X) → slice_get xs i ≡ Some a → Contains (f a) x → Contains (flat_map f xs) x
gives_at f [] i a x at has = absurd cc
gives_at f (y ∷ ys) zero a x at has = Contains-append_left (f y) (flat_map f ys) x (let same : y ≡ a = cc in rw same has)
gives_at f (y ∷ ys) (suc i) a x at has = Contains-append_right (f y) (flat_map f ys) x (gives_at f ys i a x at has)

module _ {X : Type 0} (cmp : X → X → Ordering) where
  -- the names of all list those of the element at an index
  pub lists_at : {A : Type 0} (f : A → List X) (xs : List A) (names : List X) (i : ℕ) (a : A) → slice_get xs i ≡ Some a → ListsNames cmp (flat_map f xs) names → ListsNames cmp (f a) names
  lists_at f xs names i a at lists = record { sorted = lists.sorted; few = lists.few; each = λ x has. lists.each x (gives_at f xs i a x at has) }

  pub rising : (names : List X) → IsStrictlySortedBy cmp names → Rises cmp names
  rising names sorted = record {
    next = λ i a b at_a at_b. (let less = Less-from_sorted cmp names i (i + 1) a sorted (omega arith) (slice_get_within names (i + 1) b at_b) in
        rw (get_or_from_slice_get names i a a at_a, get_or_from_slice_get names (i + 1) b a at_b) at less);
  }

  -- a list that is sorted, and then has no element twice
  pub ordered : (E : X → X → Bool) → IsEquivalence E → IsTotalOrder cmp → ((x y : X) → E x y ≡ eq_by_cmp cmp x y) → ((a b : X) → cmp a b ≡ Equal → a ≡ b) → (names sorted once : List X)
      → IsPermutation names sorted → IsSorted cmp sorted → IsFiltered (DiffersFromLast E) [] sorted once → length once ≤ 32000000 → ListsNames cmp names once
  ordered E equivalent total ties exact names sorted once moved rises filtered few = record {
    sorted = rw (dedup_is E sorted once filtered) (IsStrictlySortedBy-dedup total ties sorted rises);
    few = few;
    each = λ x has. rw (dedup_is E sorted once filtered) (Contains-dedup equivalent (λ y z e. exact y z (equal_at (cmp y z) (sym (ties y z) ∙ e))) sorted x (Contains-permutation names sorted x moved has));
  }

  not_less : (o p : Ordering) → p ≡ ordering_reverse o → o ≡ Less → is_lt p ≡ false
  not_less o p e h = grind (arith, common_steps)

  sorted_too : IsTotalOrder cmp → (names : List X) → IsStrictlySortedBy cmp names → IsSortedBy (λ x y. is_lt (cmp x y)) names
  sorted_too total names sorted k d low high =
      not_less (cmp (get_or names k d) (get_or names (k + 1) d)) (cmp (get_or names (k + 1) d) (get_or names k d)) (total.antisymm _ _) (Less-from_sorted cmp names k (k + 1) d sorted (omega arith) high)

  not_itself : IsTotalOrder cmp → (x y : X) (o : Ordering) → y ≡ x → cmp y x ≡ o → (o ≡ Equal → ⊥) → ⊥
  not_itself total x y o is e other = other (sym (rw is at e) ∙ tied_itself total x)

  -- the index that a search finds
  pub searched : IsTotalOrder cmp → ((a b : X) → cmp a b ≡ Equal → a ≡ b) → (names : List X) (x : X) (r : Result ℕ ℕ) → IsStrictlySortedBy cmp names → Contains names x → IsSearchInRange r (length names) → IsBinarySearchResult (λ y. cmp y x) names r
      → MatchResult r (λ i. slice_get names i ≡ Some x) (λ i. ⊥)
  searched total exact names x (Ok i) sorted has within found = slice_get-get_or names i x within ∙ ap (λ (y : X). Some y) (exact (get_or names i x) x (found x))
  searched total exact names x (Err i) sorted (k, lt, is) within found =
      let parts = found (searchable_from_sorted total (λ (y : X). y) names x (sorted_too total names sorted)) in
      elim (less_or_not k i) [
        | inl under ↦ not_itself total x (get_or names k x) Less is (parts.0 k x (omega arith) under) (λ e. cc)
        | inr rest ↦ not_itself total x (get_or names k x) Greater is (parts.1 k x (elim rest [ inl over ↦ omega arith | inr same ↦ omega arith ]) lt) (λ e. cc)
      ]

-- what belongs to all elements of a list, as its reader finds it
pub along_whole : {X Y : Type 0} (P : X → Y → Type 0) (xs : List X) (ys : List Y) (n : ℕ) (d : Y) → n ≡ length xs → Along P xs ys n → (length xs ≡ length ys) × ((i : ℕ) (x : X) → slice_get xs i ≡ Some x → P x (get_or ys i d))
along_whole P xs ys n d end h = (
  omega (arith, h.long, end),
  λ i x at. h.each i x (get_or ys i d) at (slice_get-get_or ys i d (omega (arith, h.long, end, slice_get_within xs i x at))),
)
