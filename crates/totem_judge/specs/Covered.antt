-- The stays that are gathered: which entries of a run are in them.
use Rattle.std.specs.Prelude.{◌≡◌, ℕ, ◌<◌, ◌≤◌, List, length, slice_get, slice_index, Some}
use Rattle.totem_evs.specs.declared.log.Log.{Log}
use Rattle.totem_judge.specs.declared.gathered.Gathered.{Gathered}
use Rattle.totem_judge.specs.declared.gathered.Stay.{Stay}

-- the entry at this index of the log at index l is in a stay that is gathered
pub record IsCovered (list : List Gathered) (l i : ℕ) : Type 0 where
  pub at : ℕ
  pub gathered : Gathered
  pub stands : slice_get list at ≡ Some gathered
  pub place : ℕ
  pub stay : Stay
  pub stay_is : slice_get gathered.stays.items place ≡ Some stay
  pub log_is : stay.log ≡ l
  pub from : stay.from ≤ i
  pub until : i < stay.end

-- so are the first n entries of the log at index l
pub record IsCoveredTo (list : List Gathered) (l n : ℕ) : Type 0 where
  pub each : (i : ℕ) → i < n → IsCovered list l i

-- so are the entries of each log before its end
pub record AreCoveredTo (list : List Gathered) (ends : List ℕ) : Type 0 where
  pub long : length ends ≡ 32
  pub each : (l : ℕ) → l < 32 → IsCoveredTo list l (slice_index ends l)

-- so are all entries of the first n logs
pub record AreCovered (run : List Log) (list : List Gathered) (n : ℕ) : Type 0 where
  pub each : (l : ℕ) (log : Log) → l < n → slice_get run l ≡ Some log → IsCoveredTo list l (length log.entries)

-- the numbers of the first n configurations are ascending
pub record AreRisingTo (list : List Gathered) (n : ℕ) : Type 0 where
  pub rising : (j k : ℕ) (g h : Gathered) → j < k → k < n → slice_get list j ≡ Some g → slice_get list k ≡ Some h → g.number < h.number
