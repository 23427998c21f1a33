-- Lists that keep a rule, and what is wrong with those that don't.
use Rattle.std.specs.Prelude.{◌≡◌, ℕ, ◌+◌, ◌<◌, ◌≤◌, List, [], length, take, All, AllPairs}
use Rattle.totem_names.specs.declared.refused.ListFault.{ListFault}
use Rattle.totem_names.specs.declared.refused.ListFault.TheVariants.{Empty, TooMany, NotRising, Life, Silence}

-- a list of least to greatest elements: each is below all after it and keeps its rule
pub record IsListOf {X : Type 0} (least greatest : ℕ) (Below : X → X → Type 0) (Keeps : X → Type 0) (xs : List X) : Type 0 where
  pub some : least ≤ length xs
  pub few : length xs ≤ greatest
  pub rising : AllPairs Below xs
  pub each : All Keeps xs

-- the elements before `at` are ascending, and with the one at `at` they are not
pub record FallsAt {X : Type 0} (Below : X → X → Type 0) (xs : List X) (at : ℕ) : Type 0 where
  pub within : at < length xs
  pub before : AllPairs Below (take at xs)
  pub falls : AllPairs Below (take (at + 1) xs) → ⊥

-- the first rule of an ascending list of least to greatest elements that this list breaks
abbrev pub Refuses : {X : Type 0} → ℕ → ℕ → (X → X → Type 0) → List X → ListFault → Type 0
Refuses least greatest Below xs Empty = (0 < least) × (xs ≡ [])
Refuses least greatest Below xs (TooMany limit) = (limit ≡ greatest) × (greatest < length xs)
Refuses least greatest Below xs (NotRising at) = (length xs ≤ greatest) × FallsAt Below xs at
Refuses least greatest Below xs (Life at) = ⊥
Refuses least greatest Below xs (Silence at) = ⊥

-- any two elements are in order
abbrev pub Anyhow : {X : Type 0} → X → X → Type 0
Anyhow a b = Unit {0}
