-- Adding all that has a property to a list, element by element of another list.
use Rattle.std.proofs.Common.{◌≡◌, ◌⊎◌, ℕ, ◌+◌, ◌<◌, ◌≤◌, inl, inr, List, [], ◌∷◌, ◌++◌, length, slice_get, Some, subst, arith, Contains}
use Rattle.totem_evs.proofs.Common.{Contains-push, Contains-append_left, Contains-push_cases, slice_get_within}
use Rattle.totem_evs.proofs.LogOf.{less_or_not}
use Rattle.totem_search.specs.Adding.{Adds}

pub adds_alike : {T : Type 0} (P Q : T → Type 0) (s t : List T) → ((x : T) → P x → Q x) → ((x : T) → Q x → P x) → Adds P s t → Adds Q s t
adds_alike P Q s t to from h = record {
  each = λ x. (λ has. elim ((h.each x).0 has) [ inl old ↦ inl old | inr new ↦ inr (to x new) ], λ k. (h.each x).1 (elim k [ inl old ↦ inl old | inr new ↦ inr (from x new) ]));
}

pub one_added : {T : Type 0} (P : T → Type 0) (list : List T) (k : T) → P k → ((x : T) → P x → k ≡ x) → Adds P list (list ++ k ∷ [])
one_added {T = T} P list k here only = record {
  each = λ x. (
    λ has. elim (Contains-push_cases list k x has) [ inl old ↦ inl old | inr same ↦ inr (subst P same here) ],
    λ h. elim h [ inl old ↦ Contains-append_left list (k ∷ []) x old | inr new ↦ subst (λ (y : T). Contains (list ++ k ∷ []) y) (only x new) (Contains-push list k) ],
  );
}

-- ---- a loop over the elements of a list

-- the property holds at one of the first n elements
pub record AtSome {X T : Type 0} (P : X → T → Type 0) (xs : List X) (n : ℕ) (x : T) : Type 0 where
  pub at : ℕ
  pub item : X
  pub below : at < n
  pub stands : slice_get xs at ≡ Some item
  pub holds : P item x

pub some_more : {X T : Type 0} (P : X → T → Type 0) (xs : List X) (n : ℕ) (item : X) (s t u : List T) → slice_get xs n ≡ Some item → Adds (P item) t u → Adds (AtSome P xs n) s t → Adds (AtSome P xs (n + 1)) s u
some_more {X = X} {T = T} P xs n item s t u at second first = record { each = λ x. (λ has. to x has, λ given. from x given) }
  where
    to : (x : T) → Contains u x → Contains s x ⊎ AtSome P xs (n + 1) x
    to x has = elim ((second.each x).0 has) [
      | inl old ↦ elim ((first.each x).0 old) [
        | inl oldest ↦ inl oldest
        | inr b ↦ inr (record { at = b.at; item = b.item; below = (let lt = b.below in omega arith); stands = b.stands; holds = b.holds })
      ]
      | inr new ↦ inr (record { at = n; item = item; below = omega arith; stands = at; holds = new })
    ]

    here : (x : T) (b : AtSome P xs (n + 1) x) → b.at ≡ n → P item x
    here x b same = (let there : slice_get xs n ≡ Some b.item = rw same at b.stands in let one : b.item ≡ item = cc in rw one at b.holds)

    from : (x : T) → Contains s x ⊎ AtSome P xs (n + 1) x → Contains u x
    from x (inl old) = (second.each x).1 (inl ((first.each x).1 (inl old)))
    from x (inr b) = elim (less_or_not b.at n) [
      | inl under ↦ (second.each x).1 (inl ((first.each x).1 (inr (record { at = b.at; item = b.item; below = under; stands = b.stands; holds = b.holds }))))
      | inr (inl over) ↦ absurd (let lt = b.below in omega arith)
      | inr (inr same) ↦ (second.each x).1 (inr (here x b same))
    ]

-- the property holds at some element
abbrev pub Somewhere : {X T : Type 0} → (X → T → Type 0) → List X → T → Type 0
Somewhere {X = X} P xs x = (i : ℕ) × (item : X) × (slice_get xs i ≡ Some item) × P item x

pub all_added : {X T : Type 0} (P : X → T → Type 0) (xs : List X) (n : ℕ) (s t : List T) → length xs ≤ n → Adds (AtSome P xs n) s t → Adds (Somewhere P xs) s t
all_added P xs n s t end h = adds_alike (AtSome P xs n) (Somewhere P xs) s t (λ x b. (b.at, b.item, b.stands, b.holds))
    (λ x (i, item, at, holds). record { at = i; item = item; below = omega (arith, slice_get_within xs i item at); stands = at; holds = holds }) h
