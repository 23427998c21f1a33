-- The steps of a round, written in forward order from the least place.
use Rattle.std.proofs.lemmas.Option.{gets}
use Rattle.std.proofs.lemmas.List.{get_or_append_left, get_or-append_right}
use Rattle.totem_cert.proofs.Common.{◌≡◌, ℕ, suc, ◌+◌, ◌-◌, ◌<◌, ◌⊎◌, inl, inr, List, [], ◌∷◌, ◌++◌, length, get_or, take, drop, slice_get, Some, refl, sym, ◌∙◌, ap, arith, length-append, length-drop, common_steps, take_all, slice_get_cases, slice_get_within, slice_get_read, Place, IsAtMost, Step, unless, forward, BeginsLeast, StandsBefore, IsForwardFrom, IsLeastUpTo}
use Rattle.totem_cert.proofs.Closing.{drop_here, get_drop}

pub one_before : (steps : List Step) (again i : ℕ) (p q : Place) → StandsBefore steps again i p → StandsBefore steps again i q → p ≡ q
one_before steps again i p q before also = grind (arith, common_steps)

pub forward_more : (steps : List Step) (again n i : ℕ) (places next : List Place) (p : Place) (v : Step) → IsForwardFrom steps again n places → i ≡ n - 1 → again < n → i < length steps → StandsBefore steps again i p
    → v ≡ get_or steps i v → next ≡ places ++ (v.from ∷ unless v.to p) → IsForwardFrom steps again i next
forward_more steps again n i places next p v from i_is lt within stands read is = grind (arith, common_steps, slice_get_read, one_before, drop_here)

in_append : (xs ys : List Place) (i : ℕ) (f : Place) → slice_get (xs ++ ys) i ≡ Some f → ((j : ℕ) × (slice_get xs j ≡ Some f)) ⊎ ((j : ℕ) × (slice_get ys j ≡ Some f))
in_append xs ys i f at = grind (arith, gets, get_or_append_left, get_or-append_right, length-append)

in_take : (xs : List Place) (k i : ℕ) (f : Place) → slice_get (take k xs) i ≡ Some f → slice_get xs i ≡ Some f
in_take xs k i f at = grind (arith, common_steps, slice_get_cases)

pub begins_least : (places list : List Place) (k : ℕ) → k < length places → IsLeastUpTo places k (length places) → list ≡ drop k places ++ take k places → BeginsLeast list
begins_least places list k lt least is = go (drop k places) refl is
  where
    anywhere : (e f : Place) (i : ℕ) → slice_get places k ≡ Some e → slice_get (drop k places ++ take k places) i ≡ Some f → IsAtMost e f
    anywhere e f i at_e at_f = elim (in_append (drop k places) (take k places) i f at_f) [
      | inl (j, h) ↦ (let g : slice_get places (k + j) ≡ Some f = sym (get_drop places k j) ∙ h in least.least (k + j) e f (slice_get_within places (k + j) f g) at_e g)
      | inr (j, h) ↦ (let g = in_take places k j f h in least.least j e f (slice_get_within places j f g) at_e g)
    ]

    go : (xs : List Place) → drop k places ≡ xs → list ≡ drop k places ++ take k places → BeginsLeast list
    go [] e is = absurd (let l : length places - k ≡ 0 = sym (length-drop k places) ∙ ap length e in omega arith)
    go (x ∷ xs) e is =
        let whole : list ≡ x ∷ (xs ++ take k places) = rw e at is in
        let plus : k + 0 ≡ k = omega arith in
        let at_x : slice_get places k ≡ Some x = (let g : slice_get (drop k places) 0 ≡ Some x = rw e refl in rw plus at (sym (get_drop places k 0) ∙ g)) in
        let all : (i : ℕ) (f : Place) → slice_get (xs ++ take k places) i ≡ Some f → IsAtMost x f = λ i f at. anywhere x f (suc i) at_x (rw e at) in
        let fine : BeginsLeast (x ∷ (xs ++ take k places)) = all in
        rw whole fine

pub rest_all : (xs : List Place) (k : ℕ) → take (length xs - k) (drop k xs) ≡ drop k xs
rest_all xs k = take_all (length xs - k) (drop k xs) (let h = length-drop k xs in omega arith)
