-- Facts about all events of a run, or about some, with their numbers.
use Rattle.std.specs.Prelude.{◌≡◌, ◌⊎◌, ℕ, ◌<◌, List, slice_get, Some}
use Rattle.totem_names.specs.declared.place.Place.{Place}
use Rattle.totem_evs.specs.declared.entry.Entry.{Entry}
use Rattle.totem_evs.specs.declared.log.Log.{Log}
use Rattle.totem_evs.specs.Certificates.{Numbering}
use Rattle.totem_outcome.specs.Numbered.{Stands, place}

-- a fact holds for each event and its number
pub record EachEvent (P : Place → Entry → ℕ → Type 0) (run : List Log) (lines : List Numbering) : Type 0 where
  pub each : (e : Place) (x : Entry) (n : ℕ) → Stands run lines e x n → P e x n

-- a fact holds for some event and its number
pub record SomeEvent (P : Place → Entry → ℕ → Type 0) (run : List Log) (lines : List Numbering) : Type 0 where
  pub event : Place
  pub entry : Entry
  pub number : ℕ
  pub stands : Stands run lines event entry number
  pub holds : P event entry number

-- what may be said about two events and their numbers
abbrev pub OfTwo : Type 1
OfTwo = Place → Entry → ℕ → Place → Entry → ℕ → Type 0

-- a fact holds for each two events
abbrev pub EachPair : OfTwo → List Log → List Numbering → Type 0
EachPair P run lines = EachEvent (λ e x n. EachEvent (P e x n) run lines) run lines

-- a fact holds for some two events
abbrev pub SomePair : OfTwo → List Log → List Numbering → Type 0
SomePair P run lines = SomeEvent (λ e x n. SomeEvent (P e x n) run lines) run lines

-- ---- along the logs

-- this event is at an index of the log at i
pub record IsIn (run : List Log) (lines : List Numbering) (i at : ℕ) (e : Place) (x : Entry) (n : ℕ) : Type 0 where
  pub log : Log
  pub line : Numbering
  pub log_is : slice_get run i ≡ Some log
  pub line_is : slice_get lines i ≡ Some line
  pub entry_is : slice_get log.entries at ≡ Some x
  pub number_is : slice_get line.numbers at ≡ Some n
  pub place_is : place log.proc at ≡ e

-- an entry of a log at an index below k, or one of the first j of the log at k
abbrev pub IsPast : ℕ → ℕ → ℕ → ℕ → Type 0
IsPast k j i at = (i < k) ⊎ ((i ≡ k) × (at < j))

-- a fact holds for each of these events and its number
pub record EachPast (P : Place → Entry → ℕ → Type 0) (run : List Log) (lines : List Numbering) (k j : ℕ) : Type 0 where
  pub each : (i at : ℕ) (e : Place) (x : Entry) (n : ℕ) → IsPast k j i at → IsIn run lines i at e x n → P e x n
