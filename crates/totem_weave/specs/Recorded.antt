-- What books recorded of one ring (docs/PROTOCOL.md, "The woven ring").
use Rattle.std.specs.Prelude.{◌≡◌, ℕ, ◌+◌, ◌-◌, ◌^◌, ◌==◌, ◌<◌, ◌≤◌, min, List, [], ◌∷◌, length, map, filter, take, Contains, if◌then◌else◌, Ok, Err}
use Rattle.std.specs.List.{flat_map}
use Rattle.totem_names.specs.Names.{RingName, PlaceName}
use Rattle.totem_names.specs.Ranks.{id_of}
use Rattle.totem_ring.specs.declared.moves.Act.{Act}
use Rattle.totem_ring.specs.Rings.{same_ring}
use Rattle.totem_core.specs.declared.ring_step.RingStep.{RingStep}
use Rattle.totem_core.specs.Outcomes.{Outcome}
use Rattle.totem_core.specs.Replay.{Answer}
use Rattle.totem_books.specs.Calls.{Called}
use Rattle.totem_books.specs.Seats.{Closed}
use Rattle.totem_weave.specs.declared.track.Track.{Track}

-- the acts of these steps that were taken on the ring
abbrev pub acts_on : RingName → List RingStep → List Act
acts_on ring steps = map (λ s. s.act) (filter (λ s. same_ring s.ring ring) steps)

-- the ring steps that a reply reports: a refusal reports none
abbrev pub steps_told : Outcome Answer → List RingStep
steps_told (Ok answer) = answer.ring_steps
steps_told (Err fault) = []

-- what a call did on the ring
abbrev pub call_acts : RingName → Called → List Act
call_acts ring call = acts_on ring (steps_told call.reply)

-- what these calls did on the ring, one after the other
abbrev pub calls_acts : RingName → List Called → List Act
calls_acts ring calls = flat_map (call_acts ring) calls

-- what a process did on the ring, by the book of its life; nothing if there is no such book
abbrev pub recorded : RingName → List Closed → ℕ → List Act
recorded ring [] p = []
recorded ring (book ∷ books) p = if p == book.start.me then calls_acts ring book.calls else recorded ring books p

-- what the member with this identifier did on the ring, by the book of its life; nothing if it is no member
abbrev pub recorded_of : RingName → List Closed → List ℕ → ℕ → List Act
recorded_of ring books [] id = []
recorded_of ring books (p ∷ members) id = if id == id_of p then recorded ring books p else recorded_of ring books members id

-- a track for each member in order, by its identifier, with what the book of its life recorded
abbrev pub AreTracksOf : RingName → List Closed → List ℕ → List Track → Type 0
AreTracksOf ring books members tracks =
    map {B = ℕ × List Act} (λ t. (t.proc, t.acts.items)) tracks ≡ map {B = ℕ × List Act} (λ p. (id_of p, recorded ring books p)) members

-- this call has the step with this number, both counted from 0
pub record StandsIn (ring : RingName) (calls : List Called) (step at : ℕ) : Type 0 where
  pub within : at < length calls
  pub not_before : length (calls_acts ring (take at calls)) ≤ step
  pub not_behind : step < length (calls_acts ring (take (at + 1) calls))

-- the place of a call, counted from 1, up to the greatest place, which is far above the number of calls that a book takes
abbrev pub place_at : ℕ → ℕ
place_at call = min (call + 1) (2 ^ 32 - 1)

-- this is the process's book
pub record IsBookOf (ring : RingName) (books : List Closed) (p : ℕ) (book : Closed) : Type 0 where
  pub is_book : Contains books book
  pub mine : book.start.me ≡ p
  pub recorded_is : recorded ring books p ≡ calls_acts ring book.calls

-- the call at this place has the step of a process with this number, counted from 0
pub record IsCallOf (ring : RingName) (books : List Closed) (p step : ℕ) (place : PlaceName) : Type 0 where
  pub proc : place.proc ≡ p
  pub book : Closed
  pub is_book : IsBookOf ring books p book
  pub call : ℕ
  pub at : place.at ≡ place_at call
  pub stands : StandsIn ring book.calls step call
