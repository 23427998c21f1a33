-- A run has one answer (docs/SPECIFICATIONS.md, "Passes").
use Rattle.std.specs.Prelude.{◌≡◌, List}
use Rattle.totem_names.specs.declared.ring.RingId.{RingId}
use Rattle.totem_names.specs.declared.place.Place.{Place}
use Rattle.totem_evs.specs.declared.log.Log.{Log}
use Rattle.totem_evs.specs.declared.fault.Fault.{Fault}
use Rattle.totem_evs.specs.declared.spec.SpecNo.{SpecNo}
use Rattle.totem_evs.specs.declared.pending.Pending.{Pending}
use Rattle.totem_evs.specs.declared.pending.Waiting.{Waiting}
use Rattle.totem_evs.specs.Runs.{IsRun}
use Rattle.totem_evs.specs.Unsettled.{ArePending, AreWaiting}
use Rattle.totem_evs.specs.Certificates.{Numbering}
use Rattle.totem_evs.specs.Positions.{IsPositions}
use Rattle.totem_evs.specs.Answers.{Answer, IsAnswered, IsLeastBreak, AreRings, Lists, ListsConfigurations}

-- at most one of the lists of places that break a specification is the least
abbrev pub LeastBreaksAreOne : Type 0
LeastBreaksAreOne = (run : List Log) (k : SpecNo) (a b : List Place) → IsLeastBreak run k a → IsLeastBreak run k b → a ≡ b

-- a run has at most one list of its regular configurations
abbrev pub RingsAreOne : Type 0
RingsAreOne = (run : List Log) (a b : List RingId) → AreRings run a → AreRings run b → a ≡ b

-- a run has at most one list of what is pending
abbrev pub PendingIsOne : Type 0
PendingIsOne = (run : List Log) (a b : List Pending) → ArePending run a → ArePending run b → a ≡ b

-- a run has at most one list of the waiting processes
abbrev pub WaitingIsOne : Type 0
WaitingIsOne = (run : List Log) (a b : List Waiting) → AreWaiting run a → AreWaiting run b → a ≡ b

-- a run has at most one list of the faults of these specifications, as passes A and B list them
abbrev pub PassFaultsAreOne : Type 0
PassFaultsAreOne = (run : List Log) (ks : List SpecNo) (a b : List Fault) → Lists run ks a → Lists run ks b → a ≡ b

-- a run has at most one list of the faults of pass D
abbrev pub ConfigurationFaultsAreOne : Type 0
ConfigurationFaultsAreOne = (run : List Log) (a b : List Fault) → ListsConfigurations run a → ListsConfigurations run b → a ≡ b

-- a run has at most one certificate of its positions, line by line. The logs have to be a run, so that their processes are
-- ascending: of two lines for one process only the first is read
abbrev pub CertificatesAreOne : Type 0
CertificatesAreOne = (run : List Log) (a b : List Numbering) → IsRun run → IsPositions run a → IsPositions run b → a ≡ b

-- a run has at most one answer
abbrev pub AnswersAreOne : Type 0
AnswersAreOne = (run : List Log) (a b : Answer) → IsRun run → IsAnswered run a → IsAnswered run b → a ≡ b
