-- From the certificate and the passes to the checker's result.
use Rattle.totem_outcome.proofs.Common.{◌≡◌, List, [], ◌∷◌, Result, Ok, Err, refl, arith, slice_index_or, Log, Numbering, Certified, Answers}
use Rattle.totem_evs.specs.declared.fault.Fault.{Fault}
use Rattle.totem_evs.specs.Answers.{No, IsAnswered}
use Rattle.totem_evs.proofs.Synchronous.{sound}
use Rattle.totem_outcome.specs.declared.certificate_fault.CertificateFault.{CertificateFault}
use Rattle.totem_outcome.specs.declared.certificate_fault.CertificateFault.TheVariants as certificate
use Rattle.totem_outcome.specs.declared.accepted.Accepted.{Accepted}
use Rattle.totem_outcome.specs.declared.check_fault.CheckFault.{CheckFault}
use Rattle.totem_outcome.specs.declared.check_fault.CheckFault.TheVariants as faults
use Rattle.totem_outcome.specs.CheckFaults.{check_fault}
use Rattle.totem_outcome.specs.Checks.{IsAcceptable, IsFirstFault, Checks, RefusesRightly}
use Rattle.totem_outcome.proofs.Exactly.{not_certified}

-- a no: the first fault of the answer
pub broken_first : (run : List Log) (lines : List Numbering) (listed : List Fault) (fault : Fault) → Certified run lines → IsAnswered run (No listed) → fault ≡ slice_index_or listed 0 fault
    → Checks run lines (Err (faults.Broken fault))
broken_first run lines [] fault c (some, h) is = absurd (some refl)
broken_first run lines (first ∷ others) fault c answered is =
    let same : fault ≡ first = is in
    let answer : IsAnswered run (No (fault ∷ others)) = rw same answered in
    (c, record { others = others; listed = answer; breaks = (sound run (No (fault ∷ others)) answer).1 0 fault (omega arith) })

-- out of memory
pub starved : (run : List Log) (lines : List Numbering) → Certified run lines → Checks run lines (Err faults.Memory)
starved run lines c = (c.matches, c.rises)

-- a fault of the certificate, passed on
pub passed_on : (run : List Log) (lines : List Numbering) (f : CertificateFault) → Answers run lines (Err f) → Checks run lines (Err (check_fault f))
passed_on run lines certificate.Count h = h
passed_on run lines certificate.NotRising h = h
passed_on run lines certificate.SendNotBefore h = h
passed_on run lines certificate.TwinsDiffer h = h
passed_on run lines certificate.SharedPosition h = h

-- ---- refusals are right

broken : (run : List Log) (lines : List Numbering) (fault : Fault) → IsFirstFault run fault → IsAcceptable run lines → ⊥
broken run lines fault first ok = (sound run (No (fault ∷ first.others)) first.listed).2 ok.meets

pub rightly : (run : List Log) (lines : List Numbering) (r : Result Accepted CheckFault) → Checks run lines r → RefusesRightly run lines r
rightly run lines (Ok accepted) h = tt
rightly run lines (Err faults.Count) h = λ ok. not_certified run lines certificate.Count h ok.certified
rightly run lines (Err faults.NotRising) h = λ ok. not_certified run lines certificate.NotRising h ok.certified
rightly run lines (Err faults.SendNotBefore) h = λ ok. not_certified run lines certificate.SendNotBefore h ok.certified
rightly run lines (Err faults.TwinsDiffer) h = λ ok. not_certified run lines certificate.TwinsDiffer h ok.certified
rightly run lines (Err faults.SharedPosition) h = λ ok. not_certified run lines certificate.SharedPosition h ok.certified
rightly run lines (Err (faults.Broken fault)) h = λ ok. broken run lines fault h.1 ok
rightly run lines (Err faults.Memory) h = tt
