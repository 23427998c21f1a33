-- Entering only the changes of a run.
use Rattle.totem_table.proofs.Common.{◌≡◌, ℕ, ◌+◌, ◌≤◌, inl, inr, List, length, slice_get, Some, arith, Entry, IsChange, ListsChanges, Keeps, KnowsLog}
use Rattle.totem_evs.proofs.Originating.{change_or_not}
use Rattle.totem_table.proofs.Changing.{listed_below, listed_before_end}
use Rattle.totem_table.proofs.Checking.{HoldsTo, holds_more}

-- the first n of the listed changes are known
abbrev pub KnowsListed : (ℕ → List Entry → ℕ → Type 0) → ℕ → List Entry → List ℕ → ℕ → Type 0
KnowsListed P p log list n = HoldsTo (λ (k i : ℕ). P p log i) list n

pub known_more : (P Q : ℕ → List Entry → ℕ → Type 0) (p : ℕ) (log : List Entry) (list : List ℕ) (n b : ℕ) → Keeps P Q → slice_get list n ≡ Some b → Q p log b → KnowsListed P p log list n → KnowsListed Q p log list (n + 1)
known_more P Q p log list n b kept at here before = holds_more _ list n b at here (record { each = λ k i lt at_k. kept.each p log i (before.each k i lt at_k) })

-- with the entries that are no change, all entries before the next listed one are known
pub known_below : (P : ℕ → List Entry → ℕ → Type 0) (p : ℕ) (log : List Entry) (list : List ℕ) (n b : ℕ) → ((q : ℕ) (l : List Entry) (i : ℕ) → (IsChange l i → ⊥) → P q l i) → ListsChanges log (length log) list → slice_get list n ≡ Some b
    → KnowsListed P p log list n → KnowsLog P p log b
known_below P p log list n b spares lists at before = record {
  each = λ i lt. elim (change_or_not log i) [
    | inl change ↦
        let within = (lists.each n b at).0 in
        let l = listed_below log (length log) list n b i lists at lt (omega arith) change in
        before.each l.0 i l.1 l.2
    | inr other ↦ spares p log i other
  ];
}

pub known_at_end : (P : ℕ → List Entry → ℕ → Type 0) (p : ℕ) (log : List Entry) (list : List ℕ) (n : ℕ) → ((q : ℕ) (l : List Entry) (i : ℕ) → (IsChange l i → ⊥) → P q l i) → ListsChanges log (length log) list → length list ≤ n
    → KnowsListed P p log list n → KnowsLog P p log (length log)
known_at_end P p log list n spares lists end before = record {
  each = λ i lt. elim (change_or_not log i) [
    | inl change ↦ (let l = listed_before_end log (length log) list n i lists end lt change in before.each l.0 i l.1 l.2)
    | inr other ↦ spares p log i other
  ];
}
