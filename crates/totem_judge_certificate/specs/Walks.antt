-- A walk over a run in the order of its numbers, class after class (docs/SPECIFICATIONS.md, "The checker").
use Rattle.std.specs.Prelude.{◌≡◌, ◌⊎◌, ℕ, ◌+◌, ◌<◌, ◌≤◌, List, length, slice_get, Option, Some, None}
use Rattle.totem_names.specs.declared.place.Place.{Place}
use Rattle.totem_evs.specs.declared.entry.Entry.{Entry}
use Rattle.totem_evs.specs.declared.log.Log.{Log}
use Rattle.totem_evs.specs.Classes.{AreOfOneClass, AreSendAndDelivery}
use Rattle.totem_evs.specs.Certificates.{Numbering}
use Rattle.totem_judge_certificate.specs.declared.class.Class.{Class}
use Rattle.totem_judge_certificate.specs.declared.walk.Head.{Head}
use Rattle.totem_outcome.specs.declared.certificate_fault.CertificateFault.{CertificateFault}
use Rattle.totem_outcome.specs.declared.certificate_fault.CertificateFault.TheVariants as faults
use Rattle.totem_judge_certificate.specs.ClassOf.{class_of}
use Rattle.totem_judge_certificate.specs.declared.passed.Passed.{Passed}
use Rattle.totem_judge_certificate.specs.PassedClasses.{Has}
use Rattle.totem_outcome.specs.Numbered.{Stands}
use Rattle.totem_outcome.specs.Each.{SomeEvent, IsIn}
use Rattle.totem_outcome.specs.Certifying.{SendsAreBelow, SendIsLate, ClassesAreOne, TwinsAreApart, OthersAreApart, OthersShare}

-- ---- where the walk is

-- `passed` says how many entries of each log have been passed; this event is the next one of the log at i
pub record IsAhead (run : List Log) (lines : List Numbering) (passed : List ℕ) (i : ℕ) (e : Place) (x : Entry) (n : ℕ) : Type 0 where
  pub at : ℕ
  pub at_is : slice_get passed i ≡ Some at
  pub is : IsIn run lines i at e x n

-- in each line, the numbers that were passed, as many as `passed` says, are at most `last`, and the others are above it
pub record IsPassed (lines : List Numbering) (passed : List ℕ) (last : ℕ) : Type 0 where
  pub before : (i at j n : ℕ) (line : Numbering) → slice_get lines i ≡ Some line → slice_get passed i ≡ Some at → slice_get line.numbers j ≡ Some n → j < at → n ≤ last
  pub after : (i at j n : ℕ) (line : Numbering) → slice_get lines i ≡ Some line → slice_get passed i ≡ Some at → slice_get line.numbers j ≡ Some n → at ≤ j → last < n

-- the next number of the line at i
pub record IsHead (lines : List Numbering) (passed : List ℕ) (i n : ℕ) : Type 0 where
  pub line : Numbering
  pub at : ℕ
  pub line_is : slice_get lines i ≡ Some line
  pub at_is : slice_get passed i ≡ Some at
  pub number_is : slice_get line.numbers at ≡ Some n

-- no line at an index below `end` has a number left
pub record NoneLeftTo (lines : List Numbering) (passed : List ℕ) (end : ℕ) : Type 0 where
  pub never : (j : ℕ) → j < end → (m : ℕ) → IsHead lines passed j m → ⊥

-- this head has the least number of the heads of the lines at indices below `end`
pub record IsLeastHead (lines : List Numbering) (passed : List ℕ) (end : ℕ) (head : Head) : Type 0 where
  pub is : IsHead lines passed head.log head.number
  pub least : (j : ℕ) → j < end → (m : ℕ) → IsHead lines passed j m → head.number ≤ m

-- the least head of the lines at indices below `end`, if one has a number left
abbrev pub IsLeastTo : List Numbering → List ℕ → ℕ → Option Head → Type 0
IsLeastTo lines passed end None = NoneLeftTo lines passed end
IsLeastTo lines passed end (Some head) = IsLeastHead lines passed end head

-- the one of two heads with the lesser number, or the first if they share it
abbrev pub IsLesser : Option Head → Head → Head → Type 0
IsLesser None second lesser = lesser ≡ second
IsLesser (Some first) second lesser = ((first.number ≤ second.number) × (lesser ≡ first)) ⊎ ((second.number < first.number) × (lesser ≡ second))

-- ---- a step of the walk

-- in a log whose next event has the number k, one more entry is passed; any other log stays
abbrev pub IsStepOf : Numbering → ℕ → ℕ → ℕ → Type 0
IsStepOf line k old new = ((slice_get line.numbers old ≡ Some k) × (new ≡ old + 1)) ⊎ ((slice_get line.numbers old ≡ Some k → ⊥) × (new ≡ old))

-- the step was made in the logs at indices below `end`, and not in the others
pub record IsStepped (lines : List Numbering) (k : ℕ) (old new : List ℕ) (end : ℕ) : Type 0 where
  pub as_many : length new ≡ length old
  pub made : (i : ℕ) → i < end → (a b : ℕ) (line : Numbering) → slice_get lines i ≡ Some line → slice_get old i ≡ Some a → slice_get new i ≡ Some b → IsStepOf line k a b
  pub left : (i a : ℕ) → end ≤ i → slice_get old i ≡ Some a → slice_get new i ≡ Some a

-- in the logs at indices below `end`, a next entry has the number n only if it is that of the log at k, or of one class with x
pub record AreOneBefore (run : List Log) (lines : List Numbering) (passed : List ℕ) (end k : ℕ) (x : Entry) (n : ℕ) : Type 0 where
  pub each : (i : ℕ) → i < end → (f : Place) (y : Entry) → IsAhead run lines passed i f y n → (i ≡ k) ⊎ AreOfOneClass y x

abbrev pub AreOne : List Log → List Numbering → List ℕ → ℕ → Entry → ℕ → Type 0
AreOne run lines passed = AreOneBefore run lines passed (length lines)

-- ---- what is kept about the classes that were passed

-- exactly the classes with numbers up to `last` were passed
pub record AreClasses (run : List Log) (lines : List Numbering) (classes : Passed) (last : ℕ) : Type 0 where
  pub known : (c : Class) (e : Place) (x : Entry) (n : ℕ) → Stands run lines e x n → n ≤ last → class_of x ≡ Some c → Has classes c
  pub there : (c : Class) → Has classes c → SomeEvent (λ e x n. (n ≤ last) × (class_of x ≡ Some c)) run lines

-- ---- what a walk shows

-- nothing is wrong with the events whose numbers are at most `last`
pub record IsCleanTo (run : List Log) (lines : List Numbering) (last : ℕ) : Type 0 where
  pub sends : (e f : Place) (x y : Entry) (n m : ℕ) → Stands run lines e x n → Stands run lines f y m → n ≤ last → m ≤ last → AreSendAndDelivery x y → n < m
  pub classes : (e f : Place) (x y : Entry) (n m : ℕ) → Stands run lines e x n → Stands run lines f y m → n ≤ last → m ≤ last → AreOfOneClass x y → n ≡ m
  pub others : (e f : Place) (x y : Entry) (n : ℕ) → Stands run lines e x n → Stands run lines f y n → n ≤ last → (e ≡ f) ⊎ AreOfOneClass x y

-- each send is below the deliveries of its message, and events share a number if and only if they are of one class
pub record IsClean (run : List Log) (lines : List Numbering) : Type 0 where
  pub sends : SendsAreBelow run lines
  pub classes : ClassesAreOne run lines
  pub others : OthersAreApart run lines

-- one of these three requirements is broken
abbrev pub IsUnclean : List Log → List Numbering → Type 0
IsUnclean run lines = SendIsLate run lines ⊎ (TwinsAreApart run lines ⊎ OthersShare run lines)

-- the first fault of numbers that match the run and are ascending
abbrev pub NamesFault : List Log → List Numbering → CertificateFault → Type 0
NamesFault run lines faults.Count = ⊥
NamesFault run lines faults.NotRising = ⊥
NamesFault run lines faults.SendNotBefore = SendIsLate run lines
NamesFault run lines faults.TwinsDiffer = SendsAreBelow run lines × TwinsAreApart run lines
NamesFault run lines faults.SharedPosition = SendsAreBelow run lines × ClassesAreOne run lines × OthersShare run lines
