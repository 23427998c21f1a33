-- Lists with ascending numbers, one after the other and pair by pair.
use Rattle.totem_packets.proofs.Common.{ℕ, suc, ◌<◌, ◌≤◌, List, [], ◌∷◌, arith, All, AllPairs, AllByRecursion, AllPairs-cons, All-from_recursion}

-- each number is above the one before, and the first above `last`
abbrev pub Rises : {Y : Type 0} → (Y → ℕ) → ℕ → List Y → Type 0
Rises number_of last [] = Unit {0}
Rises number_of last (y ∷ ys) = (last < number_of y) × Rises number_of (number_of y) ys

-- all are above `last`
above_all : {Y : Type 0} (number_of : Y → ℕ) (last : ℕ) (ys : List Y) → Rises number_of last ys → All (λ y. last < number_of y) ys
above_all {Y = Y} number_of last ys h = All-from_recursion (λ y. last < number_of y) ys (go last last ys (omega arith) h)
  where
    go : (least last : ℕ) (ys : List Y) → least ≤ last → Rises number_of last ys → AllByRecursion (λ y. least < number_of y) ys
    go least last [] le h = tt
    go least last (y ∷ ys) le h = (omega (arith, h.0), go least (number_of y) ys (omega (arith, h.0)) h.1)

pub pairs_rise : {Y : Type 0} (number_of : Y → ℕ) (last : ℕ) (ys : List Y) → Rises number_of last ys → AllPairs (λ a b. number_of a < number_of b) ys
pairs_rise number_of last [] h = λ i j d lt within. absurd (omega arith)
pairs_rise number_of last (y ∷ ys) h = AllPairs-cons (λ a b. number_of a < number_of b) y ys (above_all number_of (number_of y) ys h.1) (pairs_rise number_of (number_of y) ys h.1)

pub rise_from_pairs : {Y : Type 0} (number_of : Y → ℕ) (last : ℕ) (ys : List Y) → All (λ y. last < number_of y) ys → AllPairs (λ a b. number_of a < number_of b) ys → Rises number_of last ys
rise_from_pairs number_of last [] above pairs = tt
rise_from_pairs number_of last (y ∷ ys) above pairs =
    (above 0 y (omega arith), rise_from_pairs number_of (number_of y) ys (λ k d within. pairs 0 (suc k) d (omega arith) (omega arith)) (λ i j d lt within. pairs (suc i) (suc j) d (omega arith) (omega arith)))
