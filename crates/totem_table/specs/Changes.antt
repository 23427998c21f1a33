-- Where the logs of a run change to another configuration.
use Rattle.std.specs.Prelude.{◌≡◌, ℕ, ◌<◌, List, length, slice_get, Some}
use Rattle.totem_evs.specs.declared.entry.Entry.{Entry}
use Rattle.totem_evs.specs.declared.log.Log.{Log}
use Rattle.totem_evs.specs.Events.{IsChange}

-- the index is in the list
pub record IsListed (list : List ℕ) (i : ℕ) : Type 0 where
  pub number : ℕ
  pub is : slice_get list number ≡ Some i

-- the list has the indices of the changes among the first n entries, in ascending order
pub record ListsChanges (log : List Entry) (n : ℕ) (list : List ℕ) : Type 0 where
  pub each : (k i : ℕ) → slice_get list k ≡ Some i → (i < n) × IsChange log i
  pub rising : (k l i j : ℕ) → slice_get list k ≡ Some i → slice_get list l ≡ Some j → k < l → i < j
  pub whole : (i : ℕ) → i < n → IsChange log i → IsListed list i

-- each row has the indices of the changes of its log
pub record AreChanges (run : List Log) (rows : List (List ℕ)) : Type 0 where
  pub long : length rows ≡ length run
  pub each : (k : ℕ) (log : Log) (row : List ℕ) → slice_get run k ≡ Some log → slice_get rows k ≡ Some row → ListsChanges log.entries (length log.entries) row
