-- What the members of a ring recorded, and the state of a weave under way.
use Rattle.std.specs.Prelude.{◌≡◌, ℕ, ◌<◌, ◌==◌, List, [], ◌∷◌, map, length, zip, slice_get, if◌then◌else◌, Bool, true, false, Some}
use Rattle.totem_names.specs.Names.{RingName}
use Rattle.totem_packets.specs.declared.message.Message.{Message}
use Rattle.totem_ring.specs.declared.moves.Act.{Act}
use Rattle.totem_ring.specs.declared.moves.RingMove.{RingMove}
use Rattle.totem_ring.specs.Worlds.{World, start, run}
use Rattle.totem_recover.specs.Lives.{ids_of}
use Rattle.totem_weave.specs.declared.track.Track.{Track}
use Rattle.totem_weave.specs.declared.seat.Seat.{Seat}
use Rattle.totem_weave.specs.declared.weaver.Weaver.{Weaver}
use Rattle.totem_weave.specs.Distinct.{AreDistinctBy}
use Rattle.totem_weave.specs.Folds.{own_start, with_acts, acts_of}
use Rattle.totem_weave.specs.Index.{IsIndexOf}
use Rattle.totem_weave.specs.Weaves.{CanAct, IsWeave, IsStuck, next_step}

-- the processes of these tracks are the members
abbrev pub procs_of : List Track → List ℕ
procs_of tracks = map (λ t. t.proc) tracks

-- what a process did, by these tracks; nothing if it has no track
abbrev pub steps_of : List Track → ℕ → List Act
steps_of [] p = []
steps_of (t ∷ ts) p = if p == t.proc then t.acts.items else steps_of ts p

-- no two tracks are of the same process
abbrev pub AreApart : List Track → Type 0
AreApart tracks = AreDistinctBy (λ t. t.proc) tracks

-- the new ring of these members
abbrev pub start_of : RingName → List Track → World
start_of ring tracks = start ring (procs_of tracks)

-- the seat of a member after these moves
abbrev pub seat_after : RingName → List Track → List RingMove → ℕ → Seat
seat_after ring tracks moves p = record { state = (run (start_of ring tracks) moves).state p; next = length (acts_of p moves) }

-- the weave so far, and the seat of each member
pub record IsUnderWay (tracks : List Track) (w : Weaver) : Type 0 where
  pub weave : IsWeave (start_of w.ring tracks) (steps_of tracks) w.moves.items
  pub count : length w.seats.items ≡ length tracks
  pub seats : (k : ℕ) (t : Track) → slice_get tracks k ≡ Some t → slice_get w.seats.items k ≡ Some (seat_after w.ring tracks w.moves.items t.proc)
  pub sent : IsIndexOf (run (start_of w.ring tracks) w.moves.items).sent w.sent

-- after these moves the member at this place can't take its next step
abbrev pub IsHeldUpAt : RingName → List Track → List RingMove → ℕ → Type 0
IsHeldUpAt ring tracks moves place =
    (t : Track) (act : Act) → slice_get tracks place ≡ Some t → next_step (steps_of tracks) moves t.proc ≡ Some act → ¬ (CanAct (run (start_of ring tracks) moves) t.proc act)

-- still under way, on the same ring
pub record GoesOn (tracks : List Track) (old new : Weaver) : Type 0 where
  pub under_way : IsUnderWay tracks new
  pub ring : new.ring ≡ old.ring

-- the member at this place took steps, or can't take one
abbrev pub Steps : List Track → ℕ → Weaver → Weaver → Bool → Type 0
Steps tracks place old new true = length old.moves.items < length new.moves.items
Steps tracks place old new false = (new.moves.items ≡ old.moves.items) × IsHeldUpAt new.ring tracks new.moves.items place

-- some member took steps, or none can
abbrev pub GoesRound : List Track → Weaver → Weaver → Bool → Type 0
GoesRound tracks old new true = length old.moves.items < length new.moves.items
GoesRound tracks old new false = IsStuck (start_of new.ring tracks) (steps_of tracks) new.moves.items

-- the member at this place has taken all its steps
abbrev pub IsThrough : List Track → Weaver → ℕ → Type 0
IsThrough tracks w place = (t : Track) → slice_get tracks place ≡ Some t → acts_of t.proc w.moves.items ≡ t.acts.items

-- the first member that has steps left
pub record IsFirstLeft (tracks : List Track) (w : Weaver) (place : ℕ) : Type 0 where
  pub within : place < length tracks
  pub before : (k : ℕ) → k < place → IsThrough tracks w k
  pub left : (t : Track) → slice_get tracks place ≡ Some t → length (acts_of t.proc w.moves.items) < length t.acts.items

-- the number of steps that the member at this place has taken
abbrev pub HasTaken : List Track → Weaver → ℕ → ℕ → Type 0
HasTaken tracks w place count = (t : Track) → slice_get tracks place ≡ Some t → count ≡ length (acts_of t.proc w.moves.items)

-- a member with the messages that its track delivers to the node, on a ring of these identifiers
abbrev pub up_by : RingName → List ℕ → ℕ × Track → ℕ × List Message
up_by ring ids x = (x.0, (with_acts (own_start ring ids x.1.proc) x.1.acts.items).up)

-- each member with the messages that the track at its place delivers to the node
abbrev pub up_of_tracks : RingName → List ℕ → List Track → List (ℕ × List Message)
up_of_tracks ring members tracks = map (up_by ring (ids_of members)) (zip members tracks)
