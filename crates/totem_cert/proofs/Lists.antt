-- Lists by index.
use Rattle.std.proofs.lemmas.Option.{gets}
use Rattle.totem_cert.proofs.Common.{◌≡◌, ◌≢◌, ℕ, suc, ◌<◌, ◌≤◌, inl, inr, List, [], ◌∷◌, ◌++◌, length, set, get_or, slice_get, slice_get_cases, slice_get_within, Some, ◌∙◌, arith, common_steps, get_or_from_slice_get}

pub unless_past : (a b : ℕ) → (b < a → ⊥) → a ≤ b
unless_past a b never = grind arith

pub at_index : {A : Type 0} (xs : List A) (i : ℕ) → i < length xs → (x : A) × (slice_get xs i ≡ Some x)
at_index xs i lt = elim (slice_get_cases xs i).1 [ inl (x, _, is, _) ↦ (x, is) | inr (le, _) ↦ absurd (omega arith) ]

-- what is at an index has another element before it
pub previous : {A : Type 0} (xs : List A) (i : ℕ) (y : A) → slice_get xs (suc i) ≡ Some y → (x : A) × (slice_get xs i ≡ Some x)
previous xs i y at = at_index xs i (let lt = slice_get_within xs (suc i) y at in omega arith)

pub set_here : {A : Type 0} (xs : List A) (k : ℕ) (v : A) → k < length xs → slice_get (set xs k v) k ≡ Some v
set_here xs k v lt = grind (arith, common_steps, gets)

pub set_other : {A : Type 0} (xs : List A) (k i : ℕ) (v : A) → i ≢ k → slice_get (set xs k v) i ≡ slice_get xs i
set_other xs k i v other = grind (arith, common_steps, slice_get_cases)

-- a list with one more at the end
pub push_other : {A : Type 0} (xs : List A) (y : A) (i : ℕ) → i ≢ length xs → slice_get (xs ++ y ∷ []) i ≡ slice_get xs i
push_other xs y i other = grind (arith, common_steps, slice_get_cases)

pub last_at : {A : Type 0} (x : A) (xs : List A) → (v : A) × (slice_get (x ∷ xs) (length xs) ≡ Some v)
last_at x xs = at_index (x ∷ xs) (length xs) (omega arith)

-- what the code reads at an index
pub read_is : {A : Type 0} (xs : List A) (k : ℕ) (read was : A) → slice_get xs k ≡ Some was → read ≡ get_or xs k read → read ≡ was
read_is xs k read was at is = is ∙ get_or_from_slice_get xs k was read at
