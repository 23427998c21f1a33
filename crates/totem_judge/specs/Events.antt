-- Events by the index of their log.
use Rattle.std.specs.Prelude.{◌≡◌, ℕ, List, slice_get, Some}
use Rattle.totem_evs.specs.declared.entry.Entry.{Entry}
use Rattle.totem_evs.specs.declared.log.Log.{Log}
use Rattle.totem_evs.specs.Certificates.{Numbering}

-- the entry x is at this index of the log at index l, and has this number
pub record IsEventAt (run : List Log) (lines : List Numbering) (l i : ℕ) (x : Entry) (n : ℕ) : Type 0 where
  pub log : Log
  pub line : Numbering
  pub log_is : slice_get run l ≡ Some log
  pub line_is : slice_get lines l ≡ Some line
  pub entry_is : slice_get log.entries i ≡ Some x
  pub number_is : slice_get line.numbers i ≡ Some n
