-- Entries with a property.
use Rattle.std.specs.Prelude.{◌≡◌, ℕ, List, slice_get, Some}
use Rattle.totem_evs.specs.declared.entry.Entry.{Entry}
use Rattle.totem_evs.specs.declared.log.Log.{Log}
use Rattle.totem_evs.specs.Events.{log_of}

-- an entry of the log has the property
abbrev pub HasOne : (Entry → Type 0) → List Entry → Type 0
HasOne P log = (i : ℕ) × (x : Entry) × (slice_get log i ≡ Some x) × P x

-- an entry of some log has it
abbrev pub SomeLog : (Entry → Type 0) → List Log → Type 0
SomeLog P run = (p : ℕ) × HasOne P (log_of run p)
