-- Lists whose elements belong to different processes.
use Rattle.std.specs.Prelude.{◌≡◌, ℕ, ◌<◌, List, slice_get, Some}

-- no two elements belong to the same process
abbrev pub AreDistinctBy : {X : Type 0} → (X → ℕ) → List X → Type 0
AreDistinctBy {X} process xs = (j k : ℕ) (x y : X) → slice_get xs j ≡ Some x → slice_get xs k ≡ Some y → process x ≡ process y → j ≡ k

-- no element before this place belongs to the same process
abbrev pub IsFirstBy : {X : Type 0} → (X → ℕ) → List X → ℕ → Type 0
IsFirstBy {X} process xs place = (j : ℕ) (x y : X) → j < place → slice_get xs j ≡ Some x → slice_get xs place ≡ Some y → ¬ (process x ≡ process y)
