-- Names as contracts see them: their numbers.
use Rattle.std.specs.Prelude.{ℕ}

-- a ring: its number and its representative
pub record RingName : Type 0 where
  pub seq : ℕ
  pub rep : ℕ

-- a message: the ring on which it was first sent, and its number there
pub record MessageName : Type 0 where
  pub ring : RingName
  pub number : ℕ

-- an entry of a process's log, counted from 1
pub record PlaceName : Type 0 where
  pub proc : ℕ
  pub at : ℕ
