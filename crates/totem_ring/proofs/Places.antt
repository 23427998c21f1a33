-- The search for a number's place.
use Rattle.totem_ring.proofs.Common.{◌≡◌, ℕ, List, ◌++◌, take, drop, with_number}

-- the numbers before index i are below the number
pub record IsAt (numbers : List ℕ) (number i : ℕ) : Type 0 where
  pub split : with_number numbers number ≡ take i numbers ++ with_number (drop i numbers) number
