-- The order of what is pending.
use Rattle.totem_judge_run.proofs.Common.{get_or_default, inl, inr, ◌≡◌, ◌⊎◌, ◌<◌, ◌+◌, ◌-◌, ℕ, false, get_or, length, List, Bool, true, sym, ap, ◌∙◌, arith, Result, Ok, Err, IfOk, Vec, Global, [], Contains, AllPairs, nat_cmp, is_eq, is_ge, eq_by_cmp, ordering_then, MatchOrdering, RingId, MsgId, Log, PendingBelow, ArePending, less_or_not, IsInOrder, HoldsPending}
use Rattle.std.specs.declared.cmp.Ordering.{Ordering}
use Rattle.std.specs.declared.cmp.Ordering.TheVariants.{Less, Equal}
use Rattle.std.specs.Cmp.{IsEquivalence}
use Rattle.std.specs.declared.alloc.AllocError.{AllocError}
use Rattle.std.specs.List.Retain.{IsFiltered, DiffersFromLast}
use Rattle.std.specs.List.Sorted.{IsPermutation, IsSorted}
use Rattle.std.proofs.lemmas.Map.Lookups.{CmpEqualImpliesEq}
use Rattle.std.proofs.lemmas.Map.Keys.{Less-from_sorted, sorted_from_all_adjacent}
use Rattle.std.proofs.lemmas.List.Filters.{dedup_is}
use Rattle.std.proofs.lemmas.List.Kept.{IsStrictlySortedBy-dedup, Contains-dedup, Contains-from_dedup}
use Rattle.std.proofs.lemmas.List.Sorted.{Contains-permutation, IsPermutation-sym}
use Rattle.totem_names.specs.Orders.{MessageBelow, RingBelow}
use Rattle.totem_names.proofs.Lives.{below_is_less}
use Rattle.totem_names.specs.contracts.life.ProcOrd.TheImpl as life
use Rattle.totem_names.specs.contracts.ring.RingIdOrd.TheImpl as ring
use Rattle.totem_names.specs.contracts.message.MsgIdOrd.TheImpl as message
use Rattle.totem_evs.specs.declared.pending.Pending.{Pending}
use Rattle.totem_evs.specs.contracts.pending.PendingOrd.TheImpl as pending
use Rattle.totem_evs.specs.contracts.pending.PendingOrd.TheImpl.Laws.{total-law}
use Rattle.totem_evs.proofs.ProcOrder.{exact_proc}
use Rattle.totem_names.proofs.Exact.{both_equal, exact_ring, exact_message}

pub less_first : (a b : Ordering) → ordering_then a b ≡ Less → (a ≡ Less) ⊎ ((a ≡ Equal) × (b ≡ Less))
less_first a b h = grind arith

-- what the comparison of numbers returns, and what holds
pub compared : (a b : ℕ) (r : Ordering) → r ≡ nat_cmp a b → MatchOrdering r (a < b) (a ≡ b) (b < a)
compared a b r e = grind (arith, less_or_not)

pub below_from_less : (c d : RingId) → ring.cmp-value.it c d ≡ Less → RingBelow c d
below_from_less c d e = grind (arith, less_first, compared)

same_pending : (x : Pending) (p : ℕ) (m : MsgId) → x.proc ≡ p → x.msg ≡ m → (let y : Pending = record { proc = p; msg = m } in x ≡ y)
same_pending x p m procs msgs = (let of : ℕ → MsgId → Pending = λ q n. record { proc = q; msg = n } in ap (λ (q : ℕ). of q x.msg) procs ∙ ap (λ (n : MsgId). of p n) msgs)

pub exact_pending : CmpEqualImpliesEq pending.cmp-value.it
exact_pending a b e = grind (arith, both_equal, same_pending, exact_proc, exact_message)

message_below : (m n : MsgId) → message.cmp-value.it m n ≡ Less → MessageBelow m n
message_below m n e = grind (arith, less_first, below_from_less, exact_ring, compared)

proc_below : (a b : ℕ) → life.cmp-value.it a b ≡ Less → a < b
proc_below a b e = grind (arith, below_is_less, less_first, compared)

pending_below : (a b : Pending) → pending.cmp-value.it a b ≡ Less → PendingBelow a b
pending_below a b e = grind (arith, less_first, proc_below, exact_proc, message_below)

below_is : (o : Ordering) → is_ge o ≡ false → o ≡ Less
below_is o h = grind arith

equal_is : (o : Ordering) → is_eq o ≡ true → o ≡ Equal
equal_is o h = grind arith

-- a list that is sorted, and then has no element twice
pub ordered_once : (E : Pending → Pending → Bool) → IsEquivalence E → ((x y : Pending) → E x y ≡ eq_by_cmp pending.cmp-value.it x y) → (list sorted ordered : List Pending) → IsPermutation list sorted → IsSorted pending.cmp-value.it sorted → IsFiltered (DiffersFromLast E) [] sorted ordered
    → IsInOrder list ordered
ordered_once E equivalent ties list sorted ordered moved rises filtered = rw (dedup_is E sorted ordered filtered) (record {
  rising = λ i j d lt within. pending_below _ _ (Less-from_sorted pending.cmp-value.it _ i j d (IsStrictlySortedBy-dedup total-law ties sorted rises) lt within);
  same = λ x. (
    λ has. Contains-permutation sorted list x (IsPermutation-sym list sorted moved) (Contains-from_dedup E sorted x has),
    λ has. Contains-dedup equivalent (λ y z e. exact_pending y z (equal_is (pending.cmp-value.it y z) (sym (ties y z) ∙ e))) sorted x (Contains-permutation list sorted x moved has),
  );
})

-- each of the first n elements is below the next
abbrev pub RisesTo : List Pending → ℕ → Type 0
RisesTo list n = (k : ℕ) (d : Pending) → k + 1 < n → pending.cmp-value.it (get_or list k d) (get_or list (k + 1) d) ≡ Less

pub ascend_more : (list : List Pending) (n : ℕ) (a b : Pending) → 0 < n → a ≡ get_or list (n - 1) a → b ≡ get_or list n b → n < length list → is_ge (pending.cmp-value.it a b) ≡ false
    → RisesTo list n → RisesTo list (n + 1)
ascend_more list n a b positive at_a at_b within above before k d lt = elim (less_or_not (k + 1) n) [
  | inl under ↦ before k d under
  | inr (inl over) ↦ absurd (omega arith)
  | inr (inr same) ↦
      let at : k ≡ n - 1 = omega arith in
      rw (same, at, get_or_default list (n - 1) d a (omega arith), get_or_default list n d b within, ← at_a, ← at_b)
      (below_is (pending.cmp-value.it a b) above)
]

pub ascending : (list : List Pending) → RisesTo list (length list) → AllPairs PendingBelow list
ascending list rises = λ i j d lt within. pending_below _ _
    (Less-from_sorted pending.cmp-value.it list i j d (sorted_from_all_adjacent total-law list d (λ k next. rises k d next)) lt within)

pub are_pending : (run : List Log) (list ordered : List Pending) → HoldsPending run list → IsInOrder list ordered → ArePending run ordered
are_pending run list ordered holds is = record {
  rising = is.rising;
  exact = λ q m. (let x : Pending = record { proc = q; msg = m } in (λ has. (holds.each x).0 ((is.same x).0 has), λ p. (is.same x).1 ((holds.each x).1 p)));
}

pub are_pending_if_ok : (run : List Log) (list : List Pending) (r : Result (Vec Pending Global) AllocError) → HoldsPending run list → IfOk r (λ ordered. IsInOrder list ordered.items) → IfOk r (λ ordered. ArePending run ordered.items)
are_pending_if_ok run list (Err e) holds is = tt
are_pending_if_ok run list (Ok ordered) holds is = are_pending run list ordered.items holds is

pub empty_has_none : (list : List Pending) → list ≡ [] → (x : Pending) → Contains list x → ⊥
empty_has_none list empty x has = (let (k, lt, same) = rw empty at has in omega arith)
