-- The results of the passes of an audit (docs/SPECIFICATIONS.md, "Faults", "Passes").
use Rattle.std.specs.Prelude.{◌≡◌, ◌≢◌, ◌⊎◌, ◌↔◌, ℕ, List, [], ◌∷◌, ◌++◌, AllPairs, Contains, Option, Some, None}
use Rattle.totem_names.specs.Orders.{PlaceBelow, RingBelow}
use Rattle.totem_names.specs.declared.conf.ConfId.TheVariants.{Regular}
use Rattle.totem_names.specs.declared.ring.RingId.{RingId}
use Rattle.totem_names.specs.declared.place.Place.{Place}
use Rattle.totem_evs.specs.declared.log.Log.{Log}
use Rattle.totem_evs.specs.declared.fault.Fault.{Fault}
use Rattle.totem_evs.specs.declared.spec.SpecNo.{SpecNo}
use Rattle.totem_evs.specs.declared.spec.SpecNo.TheVariants as spec
use Rattle.totem_evs.specs.declared.pending.Pending.{Pending}
use Rattle.totem_evs.specs.declared.pending.Waiting.{Waiting}
use Rattle.totem_evs.specs.Events.{ChangesTo, log_of}
use Rattle.totem_evs.specs.Delivery.{NoCycle, DeliversWhatWasSent, DeliversOnce}
use Rattle.totem_evs.specs.Changes.{EndsTogether, StaysInPlace, IsOneConfiguration, TakesTurns, HasOneOrigin}
use Rattle.totem_evs.specs.Agreement.{SelfDelivery, FailureAtomicity, CausalDelivery, HasTotalOrder, NoGaps, SafetyIn, InstalledIn}
use Rattle.totem_evs.specs.Faults.{Breaks}
use Rattle.totem_evs.specs.RingFaults.{BreaksIn, MeetsIn}
use Rattle.totem_evs.specs.Unsettled.{ArePending, AreWaiting}
use Rattle.totem_evs.specs.Certificates.{Numbering, Certified}
use Rattle.totem_evs.specs.Positions.{IsPositions}
use Rattle.totem_evs.specs.ClosedLists.{IsCycle}

-- a list of places is equal to another, or comes before it: place by place, and a list comes before its continuations
abbrev pub ComesFirst : List Place → List Place → Type 0
ComesFirst [] fs = Unit {0}
ComesFirst (e ∷ es) [] = ⊥
ComesFirst (e ∷ es) (f ∷ fs) = PlaceBelow e f ⊎ ((e ≡ f) × ComesFirst es fs)

-- of the lists for which a fact holds, this one comes first
pub record IsLeast (Holds : List Place → Type 0) (places : List Place) : Type 0 where
  pub holds : Holds places
  pub first : (others : List Place) → Holds others → ComesFirst places others

-- these places break the specification, and each list that breaks it is this one or comes after it
abbrev pub IsLeastBreak : List Log → SpecNo → List Place → Type 0
IsLeastBreak run k places = IsLeast (Breaks run k) places

-- 2.4: each log takes turns, and no two logs come to one configuration from two different ones
pub record TakeTurns (run : List Log) : Type 0 where
  pub each : (p : ℕ) → TakesTurns (log_of run p)
  pub origin : HasOneOrigin run

-- the run meets the specification
abbrev pub Meets : List Log → SpecNo → Type 0
Meets run spec.Cycle = NoCycle run
Meets run spec.Unsent = DeliversWhatWasSent run
Meets run spec.Twice = DeliversOnce run
Meets run spec.End = EndsTogether run
Meets run spec.Misplaced = (p : ℕ) → StaysInPlace (log_of run p)
Meets run spec.Configuration = IsOneConfiguration run
Meets run spec.Turns = TakeTurns run
Meets run spec.OwnDelivery = SelfDelivery run
Meets run spec.Atomicity = FailureAtomicity run
Meets run spec.Causality = CausalDelivery run
Meets run spec.Order = HasTotalOrder run
Meets run spec.Gap = NoGaps run
Meets run spec.Safety = (c : RingId) → SafetyIn run c
Meets run spec.Installed = (c : RingId) → InstalledIn run c

-- the run meets the specifications of the passes A and B
pub record MeetsPasses (run : List Log) : Type 0 where
  pub sent : Meets run spec.Unsent
  pub once : Meets run spec.Twice
  pub together : Meets run spec.End
  pub placed : Meets run spec.Misplaced
  pub one : Meets run spec.Configuration
  pub turns : Meets run spec.Turns

-- the places found for a specification: none if the run meets it, else the least that break it
abbrev pub Finds : List Log → SpecNo → Option (List Place) → Type 0
Finds run k None = Meets run k
Finds run k (Some places) = IsLeastBreak run k places

-- the faults of these specifications, in their order: one for each that is broken
abbrev pub Lists : List Log → List SpecNo → List Fault → Type 0
Lists run [] faults = faults ≡ []
Lists run (k ∷ ks) faults =
    (Meets run k × Lists run ks faults)
    ⊎ ((places : List Place) × (rest : List Fault) × (faults ≡ record { spec = k; places = places } ∷ rest)
    × IsLeastBreak run k places × Lists run ks rest)

-- pass A: 1.4, 2.1, 2.2, 2.3, 2.4
abbrev pub pass_a : List SpecNo
pass_a = spec.Twice ∷ spec.End ∷ spec.Misplaced ∷ spec.Configuration ∷ spec.Turns ∷ []

-- pass B: 1.3
abbrev pub pass_b : List SpecNo
pass_b = spec.Unsent ∷ []

-- pass C: the fault of the closed list
abbrev pub ListsCycle : List Log → List Fault → Type 0
ListsCycle run faults = (fault : Fault) × (faults ≡ fault ∷ []) × IsCycle run fault

-- pass C finds nothing: the events can be numbered as their order requires
abbrev pub HasCertificate : List Log → Type 0
HasCertificate run = (lines : List Numbering) × Certified run lines

-- a log changes to the regular configuration c
pub record IsRing (run : List Log) (c : RingId) : Type 0 where
  pub proc : ℕ
  pub index : ℕ
  pub change : ChangesTo (log_of run proc) index (Regular c)

-- the rings of all regular configurations of the run, by number and then by representative
pub record AreRings (run : List Log) (rings : List RingId) : Type 0 where
  pub rising : AllPairs RingBelow rings
  pub exact : (c : RingId) → Contains rings c ↔ IsRing run c

-- the places found for a specification in c: none if the run meets it there, else the least that break it there
abbrev pub FindsIn : List Log → RingId → SpecNo → Option (List Place) → Type 0
FindsIn run c k None = MeetsIn run c k
FindsIn run c k (Some places) = IsLeast (BreaksIn run c k) places

-- the faults of one specification: one for each configuration in which it is broken, in their order
abbrev pub ListsRings : List Log → SpecNo → List RingId → List Fault → Type 0
ListsRings run k [] faults = faults ≡ []
ListsRings run k (c ∷ cs) faults =
    (MeetsIn run c k × ListsRings run k cs faults)
    ⊎ ((places : List Place) × (rest : List Fault) × (faults ≡ record { spec = k; places = places } ∷ rest)
    × IsLeast (BreaksIn run c k) places × ListsRings run k cs rest)

-- the faults of these specifications, in their order
abbrev pub ListsEach : List Log → List RingId → List SpecNo → List Fault → Type 0
ListsEach run rings [] faults = faults ≡ []
ListsEach run rings (k ∷ ks) faults =
    (own others : List Fault) × (faults ≡ own ++ others) × ListsRings run k rings own × ListsEach run rings ks others

-- the specifications of pass D: 3, 4, 5, 6.3, 7.1, 7.2
abbrev pub specs_d : List SpecNo
specs_d = spec.OwnDelivery ∷ spec.Atomicity ∷ spec.Causality ∷ spec.Gap ∷ spec.Safety ∷ spec.Installed ∷ []

-- pass D: the faults of 3, 4, 5, 6.3, 7.1 and 7.2, each judged in each regular configuration
pub record ListsConfigurations (run : List Log) (faults : List Fault) : Type 0 where
  pub rings : List RingId
  pub are : AreRings run rings
  pub lists : ListsEach run rings specs_d faults

-- the answer for a run: a certificate and what is left open, or faults
pub data Answer : Type 0 where
  Yes : List Numbering → List Pending → List Waiting → Answer
  No : List Fault → Answer

-- the specified answer: the faults of the first pass that finds one; or, if none does, the certificate, what is pending
-- and who waits
abbrev pub IsAnswered : List Log → Answer → Type 0
IsAnswered run (Yes lines pending waiting) =
    Lists run pass_a [] × Lists run pass_b [] × IsPositions run lines × ListsConfigurations run [] × ArePending run pending × AreWaiting run waiting
IsAnswered run (No faults) = (faults ≢ []) × (
    Lists run pass_a faults
    ⊎ (Lists run pass_a [] × Lists run pass_b faults)
    ⊎ (Lists run pass_a [] × Lists run pass_b [] × ListsCycle run faults)
    ⊎ (Lists run pass_a [] × Lists run pass_b [] × HasCertificate run × ListsConfigurations run faults))
