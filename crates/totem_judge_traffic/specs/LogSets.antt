-- Sets of logs.
use Rattle.std.specs.Prelude.{◌≡◌, ℕ, ◌-◌, ◌<◌, ◌≤◌, List, slice_get, Some}
use Rattle.std.specs.Int.{bit_at}
use Rattle.totem_judge_traffic.specs.declared.log_set.LogSet.{LogSet}

-- the set has the log at this index
unfoldable pub Has : LogSet → ℕ → Type 0
Has set log = bit_at set.bits log ≡ 1

pub record IsEmpty (set : LogSet) : Type 0 where
  pub none : (log : ℕ) → Has set log → ⊥

-- the other set has each log of the first
pub record IsWithin (set other : LogSet) : Type 0 where
  pub each : (log : ℕ) → Has set log → Has other log

-- the other set has each log of each of these sets
pub record AreIn (sets : List LogSet) (other : LogSet) : Type 0 where
  pub each : (i log : ℕ) (set : LogSet) → slice_get sets i ≡ Some set → bit_at set.bits log ≡ 1 → bit_at other.bits log ≡ 1

-- the sets of these logs have each of the others
pub record AreNoted (sets : List LogSet) (logs others : LogSet) : Type 0 where
  pub each : (log other : ℕ) (set : LogSet) → log < 32 → slice_get sets log ≡ Some set → Has logs log → Has others other → bit_at set.bits other ≡ 1

-- the sets have no log in common
pub record AreApart (set other : LogSet) : Type 0 where
  pub none : (log : ℕ) → Has set log → Has other log → ⊥

-- the set has no log from this index on, and has the log before it unless it is empty
pub record IsEnd (set : LogSet) (end : ℕ) : Type 0 where
  pub within : end ≤ 32
  pub above : (log : ℕ) → Has set log → log < end
  pub last : 0 < end → Has set (end - 1)

-- the set has this log, and none before it
pub record IsLeast (set : LogSet) (log : ℕ) : Type 0 where
  pub within : log < 32
  pub has : Has set log
  pub first : (other : ℕ) → other < log → Has set other → ⊥
