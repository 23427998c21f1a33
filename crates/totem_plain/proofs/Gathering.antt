-- Lists of what entries give: log by log, and in order.
use Rattle.totem_plain.proofs.Common.{◌≡◌, ◌⊎◌, ℕ, inl, inr, List, [], slice_get, Some, Bool, refl, sym, ◌∙◌, ap, arith, Contains, eq_by_cmp, slice_get_within, get_or_from_slice_get, slice_get-get_or, Entry, Log, log_of, HasLog, Rising, log_of_cases, HasOne, SomeLog, Adds, IsInOrder, AreListed, at_log}
use Rattle.std.specs.declared.cmp.Ordering.{Ordering}
use Rattle.std.specs.declared.cmp.Ordering.TheVariants.{Equal}
use Rattle.std.specs.Cmp.{IsEquivalence, IsTotalOrder}
use Rattle.std.specs.List.Retain.{IsFiltered, DiffersFromLast}
use Rattle.std.specs.List.Sorted.{IsPermutation, IsSorted}
use Rattle.std.proofs.lemmas.Map.Keys.{Less-from_sorted}
use Rattle.std.proofs.lemmas.List.Filters.{dedup_is}
use Rattle.std.proofs.lemmas.List.Kept.{IsStrictlySortedBy-dedup, Contains-dedup, Contains-from_dedup}
use Rattle.std.proofs.lemmas.List.Sorted.{Contains-permutation, IsPermutation-sym}
use Rattle.totem_names.proofs.Exact.{equal_at}
use Rattle.totem_search.proofs.Adding.{Somewhere, adds_alike}

-- ---- logs

-- some log has such an entry
pub log_added : {T : Type 0} (P : Entry → T → Type 0) (run : List Log) (s t : List T) → Rising run → Adds (Somewhere (λ (l : Log) x. HasOne (λ e. P e x) l.entries) run) s t → Adds (λ x. SomeLog (λ e. P e x) run) s t
log_added {T = T} P run s t rising h =
    adds_alike (Somewhere (λ (l : Log) x. HasOne (λ e. P e x) l.entries) run) (λ x. SomeLog (λ e. P e x) run) s t
    (λ x (k, l, at, has). at_log (λ p es. HasOne (λ e. P e x) es) run k l rising at has) (λ x (p, has). from x p has (log_of_cases run p)) h
  where
    from : (x : T) (p : ℕ) → HasOne (λ e. P e x) (log_of run p) → (log_of run p ≡ []) ⊎ ((k : ℕ) × (l : Log) × (slice_get run k ≡ Some l) × (l.proc ≡ p) × (log_of run p ≡ l.entries))
        → Somewhere (λ (l : Log) x. HasOne (λ e. P e x) l.entries) run x
    from x p (i, e, at, has) (inl empty) = absurd (let none : slice_get {X = Entry} [] i ≡ Some e = rw empty at at in cc)
    from x p has (inr (k, l, at, same, is)) = (k, l, at, rw is at has)

-- the processes that have a log
pub all_listed : {T : Type 0} (cmp : T → T → Ordering) (Gives : ℕ → Entry → T → Type 0) (run : List Log) (start list ordered : List T) → start ≡ []
    → Adds (Somewhere (λ (l : Log) x. SomeLog (λ e. Gives l.proc e x) run) run) start list → IsInOrder cmp list ordered → AreListed cmp Gives run ordered
all_listed {T = T} cmp Gives run start list ordered empty h is = record { rising = is.rising; exact = λ x. (λ has. to x ((h.each x).0 ((is.same x).0 has)), λ given. (is.same x).1 ((h.each x).1 (inr (from x given)))) }
  where
    to : (x : T) → Contains start x ⊎ Somewhere (λ (l : Log) x. SomeLog (λ e. Gives l.proc e x) run) run x → (p : ℕ) × HasLog run p × SomeLog (λ e. Gives p e x) run
    to x (inl old) = absurd (let (k, lt, same) = rw empty at old in omega arith)
    to x (inr (k, l, at, given)) = (l.proc, (k, l, slice_get_within run k l at, get_or_from_slice_get run k l l at, refl), given)

    from : (x : T) → (p : ℕ) × HasLog run p × SomeLog (λ e. Gives p e x) run → Somewhere (λ (l : Log) x. SomeLog (λ e. Gives l.proc e x) run) run x
    from x (p, (k, l, lt, is_l, same), given) = (k, l, slice_get-get_or run k l lt ∙ ap (λ (y : Log). Some y) is_l, rw (← same) at given)

-- ---- order

-- a list that is sorted, and then has no element twice
pub ordered_once : {T : Type 0} (cmp : T → T → Ordering) (E : T → T → Bool) → IsEquivalence E → IsTotalOrder cmp → ((x y : T) → E x y ≡ eq_by_cmp cmp x y) → ((a b : T) → cmp a b ≡ Equal → a ≡ b)
    → (list sorted once : List T) → IsPermutation list sorted → IsSorted cmp sorted → IsFiltered (DiffersFromLast E) [] sorted once → IsInOrder cmp list once
ordered_once cmp E equivalent total ties exact list sorted once moved in_order filtered = rw (dedup_is E sorted once filtered) (record {
  rising = λ i j d lt within. Less-from_sorted cmp _ i j d (IsStrictlySortedBy-dedup total ties sorted in_order) lt within;
  same = λ x. (
    λ has. Contains-permutation sorted list x (IsPermutation-sym list sorted moved) (Contains-from_dedup E sorted x has),
    λ has. Contains-dedup equivalent (λ y z e. exact y z (equal_at (cmp y z) (sym (ties y z) ∙ e))) sorted x (Contains-permutation list sorted x moved has),
  );
})
