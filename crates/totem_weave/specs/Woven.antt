-- The contract of `weave` (docs/PROTOCOL.md, "The woven ring").
use Rattle.std.specs.Prelude.{◌≡◌, ℕ, ◌+◌, ◌<◌, ◌≤◌, ◌⊎◌, List, [], length, map, take, All, Contains}
use Rattle.std.specs.List.Sorted.{IsStrictlyIncreasing}
use Rattle.totem_names.specs.Names.{RingName, PlaceName}
use Rattle.totem_names.specs.Ranks.{id_of}
use Rattle.totem_packets.specs.declared.message.Message.{Message}
use Rattle.totem_ring.specs.declared.moves.RingMove.{RingMove}
use Rattle.totem_ring.specs.Worlds.{start, run, IsSchedule}
use Rattle.totem_ring.specs.Order.{IsPrefixOf}
use Rattle.totem_recover.specs.Lives.{ids_of}
use Rattle.totem_books.specs.Seats.{Closed}
use Rattle.totem_weave.specs.Distinct.{AreDistinctBy}
use Rattle.totem_weave.specs.Folds.{acts_of}
use Rattle.totem_weave.specs.Recorded.{calls_acts, recorded_of, IsCallOf}
use Rattle.totem_weave.specs.Weaves.{NoneRefused, IsWeave, IsStuck}
use Rattle.totem_weave.specs.declared.woven.Woven.{Woven}
use Rattle.totem_weave.specs.declared.fault.WeaveFault.{WeaveFault}
use Rattle.totem_weave.specs.declared.fault.WeaveFault.TheVariants.{Members, Orphan, Memory}

-- the process whose book it is, with its life
abbrev pub process_of : Closed → ℕ
process_of book = book.start.me

-- a book reports no step on the ring, or is a member's
abbrev pub IsOfMember : RingName → List ℕ → Closed → Type 0
IsOfMember ring members book = (calls_acts ring book.calls ≡ []) ⊎ Contains members book.start.me

-- 1 to 32 members, their identifiers strictly ascending; no two books are of the same process and life; a process with a step on
-- the ring is a member in that life
pub record CanWeave (ring : RingName) (members : List ℕ) (books : List Closed) : Type 0 where
  pub some : 0 < length members
  pub few : length members ≤ 32
  pub rising : IsStrictlyIncreasing (ids_of members)
  pub apart : AreDistinctBy process_of books
  pub known : All (IsOfMember ring members) books

-- each member in order, with the messages delivered to its node by the end of these moves
abbrev pub handed_by : RingName → List ℕ → List RingMove → List (ℕ × List Message)
handed_by ring members moves = map (λ p. (p, (run (start ring (ids_of members)) moves).up (id_of p))) members

-- each member of a result with its messages
abbrev pub handed_in : Woven → List (ℕ × List Message)
handed_in woven = map (λ h. (h.0, h.1.items)) woven.handed.items

-- a schedule of the ring that takes each recorded step once, in order, and no other step, and none of them is refused
pub record IsWoven (ring : RingName) (members : List ℕ) (books : List Closed) (woven : Woven) : Type 0 where
  pub can_weave : CanWeave ring members books
  pub is_schedule : IsSchedule (start ring (ids_of members)) woven.steps.items
  pub none_refused : NoneRefused (start ring (ids_of members)) woven.steps.items
  pub whole : (id : ℕ) → acts_of id woven.steps.items ≡ recorded_of ring books members id
  pub handed : handed_in woven ≡ handed_by ring members woven.steps.items

-- of any two members' lists one is a prefix of the other
abbrev pub AreOneOrder : List (ℕ × List Message) → Type 0
AreOneOrder lists = (a b : ℕ × List Message) → Contains lists a → Contains lists b → IsPrefixOf a.1 b.1 ⊎ IsPrefixOf b.1 a.1

-- No weave gets further than this one: all members below this one took all their steps, and its own next step is in this call.
pub record IsOrphan (ring : RingName) (members : List ℕ) (books : List Closed) (place : PlaceName) : Type 0 where
  pub can_weave : CanWeave ring members books
  pub member : Contains members place.proc
  pub so_far : List RingMove
  pub weave : IsWeave (start ring (ids_of members)) (recorded_of ring books members) so_far
  pub stuck : IsStuck (start ring (ids_of members)) (recorded_of ring books members) so_far
  pub least : (id : ℕ) → id < id_of place.proc → acts_of id so_far ≡ recorded_of ring books members id
  pub call : IsCallOf ring books place.proc (length (acts_of (id_of place.proc) so_far)) place
  -- no weave of the books has every step of this call
  pub never : (other : List RingMove) → IsWeave (start ring (ids_of members)) (recorded_of ring books members) other
      → length (acts_of (id_of place.proc) other) < length (calls_acts ring (take (call.call + 1) call.book.calls))

-- why the ring is not woven: the first of these faults that applies
abbrev pub Refuses : RingName → List ℕ → List Closed → WeaveFault → Type 0
Refuses ring members books Members = ¬ (CanWeave ring members books)
Refuses ring members books (Orphan place) = IsOrphan ring members books place
Refuses ring members books Memory = CanWeave ring members books
