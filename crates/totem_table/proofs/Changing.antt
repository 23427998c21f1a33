-- The changes of a log, in a list of their indices.
use Rattle.totem_table.proofs.Common.{below_more, ◌≡◌, ℕ, ◌+◌, ◌<◌, ◌≤◌, inl, inr, List, [], ◌∷◌, ◌++◌, length, slice_get, Some, arith, common_steps, slice_get_within, Entry, IsChange, IsListed, ListsChanges, before_push, stands_before, stands_last}
use Rattle.totem_evs.specs.declared.entry.Entry.TheVariants.{Conf}
use Rattle.totem_evs.specs.Following.{IsNextOrEnd}

-- the entry at n is no change
pub no_more : (log : List Entry) (n : ℕ) (e : Entry) (list : List ℕ) → slice_get log n ≡ Some e → ((x : _) (ms : _) → e ≡ Conf x ms → ⊥) → ListsChanges log n list → ListsChanges log (n + 1) list
no_more log n e list at other before = grind (arith, common_steps)

-- the entry at n is a change
pub one_more : (log : List Entry) (n : ℕ) (list : List ℕ) → IsChange log n → ListsChanges log n list → ListsChanges log (n + 1) (list ++ (n ∷ []))
one_more log n list here before = record {
  each = λ k i listed. elim (before_push list n k i listed) [
    | inl h ↦ (let old = before.each k i h in (omega (arith, old.0), old.1))
    | inr (same, is) ↦ (omega (arith, is), rw is at here)
  ];
  rising = λ k l i j at_i at_j lt. elim (before_push list n l j at_j) [
    | inl h ↦ before.rising k l i j (elim (before_push list n k i at_i) [ inl g ↦ g | inr (same, is) ↦ absurd (omega (arith, same, slice_get_within list l j h)) ]) h lt
    | inr (same, is) ↦ elim (before_push list n k i at_i) [ inl g ↦ (let old = before.each k i g in omega (arith, old.0, is)) | inr (same_k, is_k) ↦ absurd (omega (arith, same, same_k)) ]
  ];
  whole = below_more (λ i. IsChange log i → IsListed (list ++ (n ∷ [])) i) n
      (λ i under change. (let old = before.whole i under change in record { number = old.number; is = stands_before list n old.number i old.is }))
      (λ _. record { number = length list; is = stands_last list n });
}

-- what is greater is listed later
listed_later : (log : List Entry) (n : ℕ) (list : List ℕ) (k l i j : ℕ) → ListsChanges log n list → slice_get list k ≡ Some i → slice_get list l ≡ Some j → i < j → k < l
listed_later log n list k l i j lists at_i at_j lt = grind (arith, common_steps)

-- a change before a listed one is listed before it
pub listed_below : (log : List Entry) (n : ℕ) (list : List ℕ) (j b i : ℕ) → ListsChanges log n list → slice_get list j ≡ Some b → i < b → i < n → IsChange log i → (k : ℕ) × (k < j) × (slice_get list k ≡ Some i)
listed_below log n list j b i lists at_j lt within change =
    let listed = lists.whole i within change in
    (listed.number, listed_later log n list listed.number j i b lists listed.is at_j lt, listed.is)

-- all changes are listed before the end
pub listed_before_end : (log : List Entry) (n : ℕ) (list : List ℕ) (j i : ℕ) → ListsChanges log n list → length list ≤ j → i < n → IsChange log i → (k : ℕ) × (k < j) × (slice_get list k ≡ Some i)
listed_before_end log n list j i lists end within change =
    let listed = lists.whole i within change in
    (listed.number, omega (arith, slice_get_within list listed.number i listed.is), listed.is)

-- what is next in the list is the next change
pub next_listed : (log : List Entry) (list : List ℕ) (j a b : ℕ) → ListsChanges log (length log) list → slice_get list j ≡ Some a → slice_get list (j + 1) ≡ Some b → IsNextOrEnd log a b
next_listed log list j a b lists at_a at_b = record {
  later = lists.rising j (j + 1) a b at_a at_b (omega arith);
  within = (let w = (lists.each (j + 1) b at_b).0 in omega arith);
  change = λ lt. (lists.each (j + 1) b at_b).1;
  none_between = λ k after below change.
      let w = (lists.each (j + 1) b at_b).0 in
      let l = lists.whole k (omega arith) change in
      let low = listed_later log (length log) list j l.number a k lists at_a l.is after in
      let high = listed_later log (length log) list l.number (j + 1) k b lists l.is at_b below in
      omega arith;
}

-- after the last one of the list no change follows
pub none_follows : (log : List Entry) (list : List ℕ) (j a : ℕ) → ListsChanges log (length log) list → slice_get list j ≡ Some a → length list ≤ j + 1 → IsNextOrEnd log a (length log)
none_follows log list j a lists at_a end = record {
  later = (lists.each j a at_a).0;
  within = omega arith;
  change = λ lt. absurd (omega arith);
  none_between = λ k after below change.
      let l = lists.whole k below change in
      let low = listed_later log (length log) list j l.number a k lists at_a l.is after in
      let w = slice_get_within list l.number k l.is in
      omega arith;
}
