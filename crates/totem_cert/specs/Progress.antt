-- The numbering so far, and the walk to a closed list.
use Rattle.std.specs.Prelude.{◌≡◌, ◌⊎◌, ℕ, ◌+◌, ◌-◌, ◌<◌, ◌≤◌, List, [], ◌∷◌, length, drop, slice_get, unwrap_or, Option, Some, None}
use Rattle.totem_names.specs.declared.place.Place.{Place}
use Rattle.totem_evs.specs.declared.entry.Entry.{Entry}
use Rattle.totem_evs.specs.declared.entry.Entry.TheVariants.{Conf, Send, Deliver, Fail}
use Rattle.totem_evs.specs.declared.log.Log.{Log}
use Rattle.totem_evs.specs.Events.{IsEvent}
use Rattle.totem_names.specs.declared.message.MsgId.{MsgId}
use Rattle.totem_evs.specs.Steps.{DeliversAt}
use Rattle.totem_evs.specs.Certificates.{Numbering, number_at, numbers_of}
use Rattle.totem_cert.specs.Search.{place}
use Rattle.totem_table.specs.declared.table.Table.{Table}
use Rattle.totem_table.specs.Tables.{IsEntryAt}
use Rattle.totem_cert.specs.Counts.{class_at, given_at}
use Rattle.totem_evs.specs.Classes.{IsAtMost, InClass, WaitsFor, ClassAtMost, AreSendAndDelivery}
use Rattle.totem_evs.specs.Positions.{IsReadyAt}
use Rattle.totem_evs.specs.ClosedLists.{Placed, Step, IsStepOf, IsWalk, ComesBack, forward}

-- e has a number
pub record IsNumbered (lines : List Numbering) (e : Place) : Type 0 where
  pub number : ℕ
  pub given : number_at lines e ≡ Some number

-- e has no number below k
pub record NotBelow (lines : List Numbering) (e : Place) (k : ℕ) : Type 0 where
  pub none : (l : ℕ) → number_at lines e ≡ Some l → k ≤ l

-- n classes are numbered so far
pub record Sound (run : List Log) (lines : List Numbering) (n : ℕ) : Type 0 where
  pub only : (e : Place) (k : ℕ) → number_at lines e ≡ Some k → IsEvent run e
  pub positive : (e : Place) (k : ℕ) → number_at lines e ≡ Some k → 0 < k
  pub few : (e : Place) (k : ℕ) → number_at lines e ≡ Some k → k ≤ n
  pub dense : (j : ℕ) → 0 < j → j ≤ n → (f : Place) × (number_at lines f ≡ Some j)
  pub waits : (e : Place) (k : ℕ) → number_at lines e ≡ Some k → IsReadyAt run lines e k
  pub shared : (e f : Place) (k : ℕ) → number_at lines e ≡ Some k → InClass run e f → number_at lines f ≡ Some k
  pub apart : (e f : Place) (k : ℕ) → number_at lines e ≡ Some k → number_at lines f ≡ Some k → InClass run e f
  pub least : (e f : Place) (k : ℕ) → number_at lines e ≡ Some k → IsEvent run f → IsReadyAt run lines f k → NotBelow lines f k → ClassAtMost run e f
  pub placed : (e : Place) (k : ℕ) → number_at lines e ≡ Some k → Placed run e

-- e's class is ready for the next number
pub record IsReady (run : List Log) (lines : List Numbering) (e : Place) : Type 0 where
  pub event : IsEvent run e
  pub unnumbered : number_at lines e ≡ None
  pub waits : (g : Place) → WaitsFor run e g → IsNumbered lines g

-- e's class is the next one
pub record IsNext (run : List Log) (lines : List Numbering) (e : Place) : Type 0 where
  pub ready : IsReady run lines e
  pub least : (f : Place) → IsReady run lines f → ClassAtMost run e f

-- each log has a line that is not longer than it
pub record Fits (run : List Log) (lines : List Numbering) : Type 0 where
  pub count : length lines ≡ length run
  pub proc : (k : ℕ) (log : Log) (line : Numbering) → slice_get run k ≡ Some log → slice_get lines k ≡ Some line → line.proc ≡ log.proc
  pub short : (k : ℕ) (log : Log) (line : Numbering) → slice_get run k ≡ Some log → slice_get lines k ≡ Some line → length line.numbers ≤ length log.entries

-- how many entries have no number
abbrev pub entries_left : List Log → List Numbering → ℕ
entries_left [] lines = 0
entries_left (log ∷ logs) [] = 0
entries_left (log ∷ logs) (line ∷ lines) = (length log.entries - length line.numbers) + entries_left logs lines

-- the next class got the number n
pub record IsGiven (run : List Log) (old new : List Numbering) (n : ℕ) : Type 0 where
  pub event : Place
  pub next : IsNext run old event
  pub fresh : (e : Place) → InClass run event e → number_at new e ≡ Some n
  -- no other number has changed
  pub each : (e : Place) → (InClass run event e × (number_at new e ≡ Some n)) ⊎ (number_at new e ≡ number_at old e)
  pub fits : Fits run new
  pub left : entries_left run new < entries_left run old

-- no entry keeps the class of e, where x stands, from being ready: each entry of the class has only numbers before it, and each send of
-- its message has a number
pub record IsFree (run : List Log) (lines : List Numbering) (e : Place) (x : Entry) : Type 0 where
  pub mates : (k i : ℕ) (y : Entry) (a : IsEntryAt run k i y) → InClass run e (place a.log.proc i) → i ≤ given_at lines k
  pub sends : (k i : ℕ) (y : Entry) → IsEntryAt run k i y → AreSendAndDelivery y x → i < given_at lines k

-- the head of the k-th log is the next event to be numbered
pub record IsNextHead (run : List Log) (lines : List Numbering) (k : ℕ) : Type 0 where
  pub log : Log
  pub log_at : slice_get run k ≡ Some log
  pub next : IsNext run lines (place log.proc (given_at lines k))

-- the next events to be numbered are the heads in class c
pub record IsNextIn (run : List Log) (table : Table) (lines : List Numbering) (c : ℕ) : Type 0 where
  pub k : ℕ
  pub entry : Entry
  pub at : IsEntryAt run k (given_at lines k) entry
  pub class : class_at table k (given_at lines k) entry ≡ Some c
  pub next : IsNext run lines (place at.log.proc (given_at lines k))

-- no class is ready
pub record NoneReady (run : List Log) (lines : List Numbering) : Type 0 where
  pub none : (e : Place) → IsReady run lines e → ⊥

-- some classes are numbered, all of them correctly
pub record IsSound (run : List Log) (lines : List Numbering) : Type 0 where
  pub fits : Fits run lines
  pub number : ℕ
  pub small : number ≤ 32000000
  pub sound : Sound run lines number

abbrev pub empty_line : Log → Numbering
empty_line log = record { proc = log.proc; numbers = [] }

-- n classes are numbered, and enough numbers are left for the others
pub record IsNumberedSoFar (run : List Log) (lines : List Numbering) (n : ℕ) : Type 0 where
  pub fits : Fits run lines
  pub sound : Sound run lines n
  pub room : n + entries_left run lines ≤ 32000000

-- each entry of the logs before the k-th has a number
pub record IsFullBefore (run : List Log) (lines : List Numbering) (k : ℕ) : Type 0 where
  pub full : (j : ℕ) (log : Log) (line : Numbering) → j < k → slice_get run j ≡ Some log → slice_get lines j ≡ Some line → length log.entries ≤ length line.numbers

-- each entry has a number
pub record IsFull (run : List Log) (lines : List Numbering) : Type 0 where
  pub full : (j : ℕ) (log : Log) (line : Numbering) → slice_get run j ≡ Some log → slice_get lines j ≡ Some line → length log.entries ≤ length line.numbers

-- the k-th log is the first that has an entry without a number
pub record IsFirstLeft (run : List Log) (lines : List Numbering) (k : ℕ) : Type 0 where
  pub log : Log
  pub line : Numbering
  pub log_at : slice_get run k ≡ Some log
  pub line_at : slice_get lines k ≡ Some line
  pub more : length line.numbers < length log.entries
  pub before : IsFullBefore run lines k

-- the log of p is at this index, or p has no log
abbrev pub IsLogOf : List Log → ℕ → Option ℕ → Type 0
IsLogOf run p (Some k) = (log : Log) × (slice_get run k ≡ Some log) × (log.proc ≡ p)
IsLogOf run p None = (k : ℕ) (log : Log) → slice_get run k ≡ Some log → log.proc ≡ p → ⊥

-- if e is an event, this is its class
pub record IsClassOf (run : List Log) (table : Table) (e : Place) (class : Option ℕ) : Type 0 where
  pub each : (k i : ℕ) (entry : Entry) (at : IsEntryAt run k i entry) → e ≡ place at.log.proc i → class ≡ class_at table k i entry

-- from holds `to` up: it is the entry before, if that has no number, otherwise the send
abbrev pub IsHeldBy : List Numbering → Option Place → Place → Place → Type 0
IsHeldBy lines send to from =
    ((length (numbers_of lines to.proc) + 1 < to.at) × (from.proc ≡ to.proc) × (from.at + 1 ≡ to.at))
    ⊎ ((to.at ≤ length (numbers_of lines to.proc) + 1) × (from ≡ unwrap_or send to))

-- the step at i leads to the event
pub record IsVisitedAt (steps : List Step) (to : Place) (i : ℕ) : Type 0 where
  pub step : Step
  pub at : slice_get steps i ≡ Some step
  pub same : step.to ≡ to

-- no step before the i-th leads to the event
pub record IsNotVisited (steps : List Step) (to : Place) (i : ℕ) : Type 0 where
  pub none : (j : ℕ) (step : Step) → j < i → slice_get steps j ≡ Some step → step.to ≡ to → ⊥

-- a walk so far, and the next step
pub record IsWalking (run : List Log) (start : Place) (steps : List Step) (next : Step) : Type 0 where
  pub walk : IsWalk run start steps
  pub first : length steps ≡ 0 → IsStepOf run start next
  pub later : (i : ℕ) (step : Step) → slice_get steps i ≡ Some step → length steps ≡ i + 1 → IsStepOf run step.from next

-- these steps form a walk that returns to the class of the step at `again`
pub record IsRound (run : List Log) (start : Place) (steps : List Step) (again : ℕ) : Type 0 where
  pub last : Step
  pub back : ComesBack run start steps again last

-- p is the event from which the step before the i-th leads, or for the step at `again` the last step
abbrev pub StandsBefore : List Step → ℕ → ℕ → Place → Type 0
StandsBefore steps again i p =
    ((again < i) × (v : Step) × (slice_get steps (i - 1) ≡ Some v) × (p ≡ v.from))
    ⊎ ((i ≡ again) × (v : Step) × (slice_get steps (length steps - 1) ≡ Some v) × (p ≡ v.from))

-- the steps from the i-th on, in forward order
pub record IsForwardFrom (steps : List Step) (again i : ℕ) (places : List Place) : Type 0 where
  pub each : (p : Place) → StandsBefore steps again i p → places ≡ forward p (drop i steps)

-- no event before the i-th is below the one at k
pub record IsLeastUpTo (places : List Place) (k i : ℕ) : Type 0 where
  pub least : (j : ℕ) (e f : Place) → j < i → slice_get places k ≡ Some e → slice_get places j ≡ Some f → IsAtMost e f

-- the message that an entry delivers
abbrev pub message_of : Entry → Option MsgId
message_of (Conf x ms) = None
message_of (Send m x s) = None
message_of (Deliver m x) = Some m
message_of (Fail x) = None

pub record NeverDelivers (run : List Log) (e : Place) : Type 0 where
  pub never : (m : MsgId) → DeliversAt run e m → ⊥

-- f follows the event at i of a closed list
abbrev pub StandsNext : List Place → ℕ → Place → Type 0
StandsNext places i f = (slice_get places (i + 1) ≡ Some f) ⊎ ((length places ≡ i + 1) × (slice_get places 0 ≡ Some f))

abbrev pub BothAre : Option MsgId → Option MsgId → Type 0
BothAre (Some m) (Some n) = m ≡ n
BothAre _ _ = ⊥
