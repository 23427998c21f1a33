-- Loops over a list whose elements are ascending.
use Rattle.totem_names.proofs.Common.{◌≡◌, ℕ, zero, suc, ◌+◌, ◌<◌, ◌≤◌, List, length, get_or, take, refl, sym, ◌∙◌, ap, arith, All, AllPairs, take_more, take_all, length-take-le, get_or-take, get_or_default}
use Rattle.std.proofs.lemmas.List.Elements.{All-push}
use Rattle.std.proofs.lemmas.List.Quantifiers.{all_pairs_push}
use Rattle.totem_names.specs.Lists.{FallsAt}

-- the first i elements are ascending, and the last of them, if there is one, has this key
pub record RisesTo {X : Type 0} (of : X → ℕ) (xs : List X) (i last : ℕ) : Type 0 where
  pub rising : AllPairs (λ a b. of a < of b) (take i xs)
  pub below : All (λ x. of x ≤ last) (take i xs)
  pub last_is : (j : ℕ) (d : X) → i ≡ j + 1 → of (get_or xs j d) ≡ last
  pub none_yet : i ≡ 0 → last ≡ 0

pub rises_more : {X : Type 0} (of : X → ℕ) (xs : List X) (i last n : ℕ) (x : X) → i < length xs → x ≡ get_or xs i x → n ≡ of x → 0 < n → last < n
    → RisesTo of xs i last → RisesTo of xs (i + 1) n
rises_more of xs i last n x lt is number positive above so_far = record {
  rising = rw (take_more xs i x lt, ← is) (all_pairs_push (λ a b. of a < of b) (take i xs) x so_far.rising (λ k d within. omega (arith, so_far.below k d within, number)));
  below = rw (take_more xs i x lt, ← is) (All-push (λ y. of y ≤ n) (take i xs) x (λ k d within. omega (arith, so_far.below k d within)) (omega (arith, number)));
  last_is = λ j d e. let same : i ≡ j = omega arith in ap of (ap (λ (k : ℕ). get_or xs k d) (sym same) ∙ get_or_default xs i d x lt ∙ sym is) ∙ sym number;
  none_yet = λ e. absurd (omega arith);
}

pub rises_whole : {X : Type 0} (of : X → ℕ) (xs : List X) (i last : ℕ) → length xs ≤ i → RisesTo of xs i last → AllPairs (λ a b. of a < of b) xs
rises_whole of xs i last end so_far = rw (take_all i xs end) at so_far.rising

pub rises_falls : {X : Type 0} (of : X → ℕ) (xs : List X) (i last n : ℕ) (x : X) → i < length xs → x ≡ get_or xs i x → n ≡ of x → 0 < n → n ≤ last → RisesTo of xs i last → FallsAt (λ a b. of a < of b) xs i
rises_falls of xs i last n x lt is number positive under so_far = record { within = lt; before = so_far.rising; falls = go i refl }
  where
    go : (n : ℕ) → i ≡ n → AllPairs (λ a b. of a < of b) (take (i + 1) xs) → ⊥
    go zero e all = omega (arith, so_far.none_yet e)
    go (suc j) e all =
        let len : length (take (i + 1) xs) ≡ i + 1 = length-take-le (i + 1) xs (omega arith) in
        let h = all j i x (omega arith) (omega arith) in
        let first : get_or (take (i + 1) xs) j x ≡ get_or xs j x = get_or-take (i + 1) xs j x (omega arith) in
        let second : get_or (take (i + 1) xs) i x ≡ x = get_or-take (i + 1) xs i x (omega arith) ∙ sym is in
        let before : of (get_or xs j x) ≡ last = so_far.last_is j x (omega arith) in
        omega (arith, h, ap of first, ap of second, before)
