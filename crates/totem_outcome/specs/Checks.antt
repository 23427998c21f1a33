-- The results of the checker (docs/SPECIFICATIONS.md, "The checker").
use Rattle.std.specs.Prelude.{List, ◌∷◌, Result, Ok, Err}
use Rattle.totem_evs.specs.declared.log.Log.{Log}
use Rattle.totem_evs.specs.declared.fault.Fault.{Fault}
use Rattle.totem_evs.specs.Synchrony.{IsVirtuallySynchronous}
use Rattle.totem_evs.specs.Unsettled.{ArePending, AreWaiting}
use Rattle.totem_evs.specs.Faults.{Breaks}
use Rattle.totem_evs.specs.Answers.{No, IsAnswered}
use Rattle.totem_evs.specs.Certificates.{Numbering, Matches, Certified}
use Rattle.totem_outcome.specs.declared.accepted.Accepted.{Accepted}
use Rattle.totem_outcome.specs.declared.certificate_fault.CertificateFault.TheVariants as certificate
use Rattle.totem_outcome.specs.declared.check_fault.CheckFault.{CheckFault}
use Rattle.totem_outcome.specs.declared.check_fault.CheckFault.TheVariants as faults
use Rattle.totem_outcome.specs.Certifying.{Answers, Rise}

-- the lines certify the run, and it meets specifications 1 to 7
pub record IsAcceptable (run : List Log) (lines : List Numbering) : Type 0 where
  pub certified : Certified run lines
  pub meets : IsVirtuallySynchronous run

-- an accepted run comes with all that is pending and all processes that wait
pub record ListsOpen (run : List Log) (accepted : Accepted) : Type 0 where
  pub pending : ArePending run accepted.pending.items
  pub waiting : AreWaiting run accepted.waiting.items

-- the first fault that the audit of the run lists
pub record IsFirstFault (run : List Log) (fault : Fault) : Type 0 where
  pub others : List Fault
  pub listed : IsAnswered run (No (fault ∷ others))
  pub breaks : Breaks run fault.spec fault.places

-- the run and the lines are accepted; or this is the first reason why they are not; or memory was refused. In the last case the
-- first two reasons do not hold, as the search for them takes no memory
abbrev pub Checks : List Log → List Numbering → Result Accepted CheckFault → Type 0
Checks run lines (Ok accepted) = IsAcceptable run lines × ListsOpen run accepted
Checks run lines (Err faults.Count) = Answers run lines (Err certificate.Count)
Checks run lines (Err faults.NotRising) = Answers run lines (Err certificate.NotRising)
Checks run lines (Err faults.SendNotBefore) = Answers run lines (Err certificate.SendNotBefore)
Checks run lines (Err faults.TwinsDiffer) = Answers run lines (Err certificate.TwinsDiffer)
Checks run lines (Err faults.SharedPosition) = Answers run lines (Err certificate.SharedPosition)
Checks run lines (Err (faults.Broken fault)) = Certified run lines × IsFirstFault run fault
Checks run lines (Err faults.Memory) = Matches run lines × Rise run lines

-- if the run was refused for any reason but memory, it is not acceptable
abbrev pub RefusesRightly : List Log → List Numbering → Result Accepted CheckFault → Type 0
RefusesRightly run lines (Ok accepted) = Unit {0}
RefusesRightly run lines (Err faults.Memory) = Unit {0}
RefusesRightly run lines (Err _) = IsAcceptable run lines → ⊥
