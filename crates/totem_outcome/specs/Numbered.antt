-- Events with their numbers (docs/SPECIFICATIONS.md, "Certificates").
use Rattle.std.specs.Prelude.{◌≡◌, ℕ, ◌+◌, List, Some}
use Rattle.totem_names.specs.declared.place.Place.{Place}
use Rattle.totem_evs.specs.declared.entry.Entry.{Entry}
use Rattle.totem_evs.specs.declared.log.Log.{Log}
use Rattle.totem_evs.specs.Events.{entry_at}
use Rattle.totem_evs.specs.Certificates.{Numbering, number_at}

-- this entry is at e, and this is its number
pub record Stands (run : List Log) (lines : List Numbering) (e : Place) (x : Entry) (n : ℕ) : Type 0 where
  pub entry : entry_at run e ≡ Some x
  pub number : number_at lines e ≡ Some n

-- the place of the entry at an index of p's log
abbrev pub place : ℕ → ℕ → Place
place p i = record { proc = p; at = i + 1 }
