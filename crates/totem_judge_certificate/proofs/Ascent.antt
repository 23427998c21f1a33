-- Messages in ascending order, and the search for one.
use Rattle.totem_judge_certificate.proofs.Common.{◌≡◌, ℕ, ◌+◌, ◌-◌, inl, inr, List, length, get_or, slice_get, Some, Bool, true, false, Ok, Err, Result, IsTrue, refl, ◌↔◌, arith, Contains, get_or_from_slice_get, MsgId, less_or_not}
use Rattle.std.proofs.lemmas.Grind.{common_steps}
use Rattle.std.proofs.lemmas.List.Sorted.{searchable_from_sorted}
use Rattle.std.specs.Bool.{OnTrue}
use Rattle.std.specs.Cmp.{tied_itself}
use Rattle.std.specs.declared.cmp.Ordering.{Ordering}
use Rattle.std.specs.declared.cmp.Ordering.TheVariants.{Less, Equal, Greater}
use Rattle.std.specs.Ordering.{is_lt, ordering_reverse}
use Rattle.std.specs.Result.{is_ok}
use Rattle.std.specs.List.Sorted.{IsSortedBy, IsBinarySearchResult, IsSearchInRange}
use Rattle.totem_names.specs.contracts.message.MsgIdOrd.TheImpl as message
use Rattle.totem_names.specs.contracts.message.MsgIdOrd.TheImpl.Laws.{total-law}
use Rattle.totem_names.proofs.Exact.{exact_message}
use Rattle.totem_judge_certificate.specs.Ascending.{Ascends, IsAbove}

-- what is above the last one is above all
pub above_all : (ms : List MsgId) (last m : MsgId) (b : Bool) → Ascends ms → slice_get ms (length ms - 1) ≡ Some last → b ≡ is_lt (message.cmp-value.it last m) → OnTrue b (IsAbove ms m)
above_all ms last m true up at is = (let less : message.cmp-value.it last m ≡ Less = is_less _ is in record {
  less = λ i d lt. elim (less_or_not i (length ms - 1)) [
    | inl under ↦ total-law.trans (get_or ms i d) (get_or ms (length ms - 1) d) m (up.less i (length ms - 1) d under (omega arith)) (rw (get_or_from_slice_get ms (length ms - 1) last d at) less)
    | inr (inl over) ↦ absurd (omega arith)
    | inr (inr same) ↦ rw (same, get_or_from_slice_get ms (length ms - 1) last d at) less
  ];
})
  where
    is_less : (o : Ordering) → true ≡ is_lt o → o ≡ Less
    is_less o e = grind (arith, common_steps)
above_all ms last m false up at is = tt

not_itself : (m n : MsgId) (o : Ordering) → n ≡ m → message.cmp-value.it n m ≡ o → (o ≡ Equal → ⊥) → ⊥
not_itself m n o same is other = other (let tie = tied_itself total-law m in let here : message.cmp-value.it m m ≡ o = rw same at is in cc)

sorted : (ms : List MsgId) → Ascends ms → IsSortedBy (λ x y. is_lt (message.cmp-value.it x y)) ms
sorted ms up k d low high = not_less (message.cmp-value.it (get_or ms k d) (get_or ms (k + 1) d)) (message.cmp-value.it (get_or ms (k + 1) d) (get_or ms k d)) (total-law.antisymm (get_or ms (k + 1) d) (get_or ms k d)) (up.less k (k + 1) d (omega arith) high)
  where
    not_less : (o p : Ordering) → p ≡ ordering_reverse o → o ≡ Less → is_lt p ≡ false
    not_less o p e h = grind (arith, common_steps)

-- whether a search for one finds it
pub searched : (ms : List MsgId) (m : MsgId) (r : Result ℕ ℕ) → Ascends ms → IsSearchInRange r (length ms) → IsBinarySearchResult (λ y. message.cmp-value.it y m) ms r → IsTrue (is_ok r) ↔ Contains ms m
searched ms m (Ok i) up within found = (λ ok. (i, within, exact_message (get_or ms i m) m (found m)), λ among. refl)
searched ms m (Err i) up within found = (
  λ ok. absurd cc,
  λ (k, lt, is).
      let parts = found (searchable_from_sorted total-law (λ (y : MsgId). y) ms m (sorted ms up)) in
      elim (less_or_not k i) [
        | inl under ↦ absurd (not_itself m (get_or ms k m) Less is (parts.0 k m (omega arith) under) (λ e. absurd cc))
        | inr rest ↦ absurd (not_itself m (get_or ms k m) Greater is (parts.1 k m (elim rest [ inl over ↦ omega arith | inr same ↦ omega arith ]) lt) (λ e. absurd cc))
      ],
)
