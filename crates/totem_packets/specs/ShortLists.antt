-- Lists of at most 32 processes in an array of fixed size.
use Rattle.std.specs.Prelude.{◌≡◌, ℕ, ◌-◌, ◌≤◌, List, ◌++◌, length, take, replicate}

-- the array is the first `count` processes, and the process 1 in every place after them
pub record IsShort (procs : List ℕ) (count : ℕ) : Type 0 where
  pub few : count ≤ 32
  pub counted : length (take count procs) ≡ count
  pub unused : take count procs ++ replicate (32 - length (take count procs)) 1 ≡ procs
