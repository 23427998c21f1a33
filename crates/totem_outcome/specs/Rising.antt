-- Numbers that ascend from entry to entry (docs/SPECIFICATIONS.md, "Certificates").
use Rattle.std.specs.Prelude.{◌≡◌, ℕ, ◌+◌, ◌<◌, ◌≤◌, List, slice_get, Some}
use Rattle.totem_evs.specs.Certificates.{Numbering}

-- each of the first `end` numbers is below the later ones of them
pub record RisesBefore (numbers : List ℕ) (end : ℕ) : Type 0 where
  pub rising : (i j n m : ℕ) → i < j → j < end → slice_get numbers i ≡ Some n → slice_get numbers j ≡ Some m → n < m

-- a number is not above the one before
pub record FallsSomewhere (numbers : List ℕ) : Type 0 where
  pub at : ℕ
  pub number : ℕ
  pub next : ℕ
  pub number_is : slice_get numbers at ≡ Some number
  pub next_is : slice_get numbers (at + 1) ≡ Some next
  pub falls : next ≤ number

-- the numbers of the first `end` lines are ascending
pub record LinesRise (lines : List Numbering) (end : ℕ) : Type 0 where
  pub each : (k : ℕ) (line : Numbering) (i j n m : ℕ) → k < end → slice_get lines k ≡ Some line → i < j → slice_get line.numbers i ≡ Some n → slice_get line.numbers j ≡ Some m → n < m

-- the numbers of some line are not ascending
pub record LineFalls (lines : List Numbering) : Type 0 where
  pub index : ℕ
  pub line : Numbering
  pub line_is : slice_get lines index ≡ Some line
  pub falls : FallsSomewhere line.numbers
