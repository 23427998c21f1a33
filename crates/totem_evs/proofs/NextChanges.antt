-- The next change of a log, and its first one to a configuration: there is one at most.
use Rattle.totem_evs.proofs.Common.{◌≡◌, ℕ, ◌+◌, ◌<◌, inl, inr, List, slice_get, Some, arith, ConfId, IsChange, IsNextChange, IsFirstChange}
use Rattle.totem_evs.specs.declared.entry.Entry.{Entry}
use Rattle.totem_evs.specs.declared.entry.Entry.TheVariants.{Conf}
use Rattle.totem_evs.proofs.LogOf.{less_or_not}

-- one change is the next
pub one_next : (log : List Entry) (i j k : ℕ) → IsNextChange log i j → IsNextChange log i k → j ≡ k
one_next log i j k a b = elim (less_or_not j k) [
  | inl lt ↦ absurd (b.none_between j a.later lt a.change)
  | inr rest ↦ elim rest [ inl gt ↦ absurd (a.none_between k b.later gt b.change) | inr same ↦ same ]
]

-- one change is the first
pub same_first : (log : List Entry) (x : ConfId) (i j : ℕ) → IsFirstChange log x i → IsFirstChange log x j → i ≡ j
same_first log x i j a b = elim (less_or_not i j) [
  | inl lt ↦ absurd (b.none_before i lt a.change)
  | inr more ↦ elim more [ inl gt ↦ absurd (a.none_before j gt b.change) | inr e ↦ e ]
]

-- no change is after i and before n
pub record NoneBetween (log : List Entry) (i n : ℕ) : Type 0 where
  pub none : (k : ℕ) → i < k → k < n → IsChange log k → ⊥

pub no_change : (log : List Entry) (i : ℕ) (e : Entry) → slice_get log i ≡ Some e → ((x : ConfId) (ms : List ℕ) → e ≡ Conf x ms → ⊥) → IsChange log i → ⊥
no_change log i e at other (x, (ms, h)) = other x ms cc

pub none_between_more : (log : List Entry) (i n : ℕ) (e : Entry) → slice_get log n ≡ Some e → ((x : ConfId) (ms : List ℕ) → e ≡ Conf x ms → ⊥) → NoneBetween log i n → NoneBetween log i (n + 1)
none_between_more log i n e at other before = record {
  none = λ k lt below h. elim (less_or_not k n) [
    | inl under ↦ before.none k lt under h
    | inr more ↦ elim more [ inl over ↦ omega arith | inr same ↦ no_change log n e at other (rw same at h) ]
  ];
}
