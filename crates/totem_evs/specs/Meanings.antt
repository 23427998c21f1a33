-- What an answer means (docs/SPECIFICATIONS.md, "Passes"). No pass, job or least fault is mentioned in it.
use Rattle.std.specs.Prelude.{◌≢◌, List, [], All}
use Rattle.totem_evs.specs.declared.log.Log.{Log}
use Rattle.totem_evs.specs.Synchrony.{IsVirtuallySynchronous}
use Rattle.totem_evs.specs.Unsettled.{ArePending, AreWaiting}
use Rattle.totem_evs.specs.Faults.{Breaks}
use Rattle.totem_evs.specs.Certificates.{Certified}
use Rattle.totem_evs.specs.Answers.{Answer, Yes, No, IsAnswered}

-- a yes: the run meets specifications 1 to 7, its certificate numbers the events as their order requires, and what is
-- pending and who waits are listed; a no: it has a fault, the places of each fault break its specification, and so the
-- run does not meet the specifications
abbrev pub IsSound : List Log → Answer → Type 0
IsSound run (Yes lines pending waiting) = IsVirtuallySynchronous run × Certified run lines × ArePending run pending × AreWaiting run waiting
IsSound run (No faults) = (faults ≢ []) × All (λ fault. Breaks run fault.spec fault.places) faults × (IsVirtuallySynchronous run → ⊥)

-- the specified answer for a run means that
abbrev pub AnswersAreSound : Type 0
AnswersAreSound = (run : List Log) (answer : Answer) → IsAnswered run answer → IsSound run answer
