-- What is in a list to which one more element was appended.
use Rattle.totem_evs.proofs.Common.{◌≡◌, ℕ, zero, suc, ◌+◌, ◌⊎◌, inl, inr, List, [], ◌∷◌, ◌++◌, length, slice_get, Some, refl, arith, length_push}

-- nothing is in an empty list
pub nothing : {X : Type 0} (k : ℕ) (x : X) → slice_get [] k ≡ Some x → ⊥
nothing k x at = cc

-- the appended element, or one of the others
pub before_push : {X : Type 0} (xs : List X) (x : X) (k : ℕ) (y : X) → slice_get (xs ++ (x ∷ [])) k ≡ Some y → (slice_get xs k ≡ Some y) ⊎ ((k ≡ length xs) × (x ≡ y))
before_push [] x zero y at = inr (refl, cc)
before_push [] x (suc k) y at = absurd (nothing k y at)
before_push (z ∷ xs) x zero y at = inl at
before_push (z ∷ xs) x (suc k) y at = elim (before_push xs x k y at) [ inl h ↦ inl h | inr (same, is) ↦ inr (omega (arith, same), is) ]

pub stands_before : {X : Type 0} (xs : List X) (x : X) (k : ℕ) (y : X) → slice_get xs k ≡ Some y → slice_get (xs ++ (x ∷ [])) k ≡ Some y
stands_before [] x k y at = absurd (nothing k y at)
stands_before (z ∷ xs) x zero y at = at
stands_before (z ∷ xs) x (suc k) y at = stands_before xs x k y at

pub stands_last : {X : Type 0} (xs : List X) (x : X) → slice_get (xs ++ (x ∷ [])) (length xs) ≡ Some x
stands_last [] x = refl
stands_last (z ∷ xs) x = stands_last xs x

-- the elements of ys belong to the first n of xs, each to the one at its index
pub record Along {X Y : Type 0} (P : X → Y → Type 0) (xs : List X) (ys : List Y) (n : ℕ) : Type 0 where
  pub long : length ys ≡ n
  pub each : (k : ℕ) (x : X) (y : Y) → slice_get xs k ≡ Some x → slice_get ys k ≡ Some y → P x y

pub along_more : {X Y : Type 0} (P : X → Y → Type 0) (xs : List X) (ys : List Y) (n : ℕ) (x : X) (y : Y) → slice_get xs n ≡ Some x → P x y → Along P xs ys n → Along P xs (ys ++ (y ∷ [])) (n + 1)
along_more P xs ys n x y at holds before = grind (arith, length_push, before_push)
