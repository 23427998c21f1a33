-- What holds for the entries of one log with their numbers (docs/SPECIFICATIONS.md, "Certificates").
use Rattle.std.specs.Prelude.{◌≡◌, ℕ, ◌<◌, slice_get, Some}
use Rattle.totem_names.specs.declared.place.Place.{Place}
use Rattle.totem_evs.specs.declared.entry.Entry.{Entry}
use Rattle.totem_evs.specs.declared.log.Log.{Log}
use Rattle.totem_evs.specs.Certificates.{Numbering}
use Rattle.totem_outcome.specs.Numbered.{place}

-- a fact holds for each of the first n entries
pub record EachIn (P : Place → Entry → ℕ → Type 0) (log : Log) (line : Numbering) (n : ℕ) : Type 0 where
  pub each : (i : ℕ) (x : Entry) (k : ℕ) → i < n → slice_get log.entries i ≡ Some x → slice_get line.numbers i ≡ Some k → P (place log.proc i) x k

-- a fact holds for some entry
pub record SomeIn (P : Place → Entry → ℕ → Type 0) (log : Log) (line : Numbering) : Type 0 where
  pub index : ℕ
  pub entry : Entry
  pub number : ℕ
  pub entry_is : slice_get log.entries index ≡ Some entry
  pub number_is : slice_get line.numbers index ≡ Some number
  pub holds : P (place log.proc index) entry number
