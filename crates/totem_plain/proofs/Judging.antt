-- From what the passes find to the checker's result.
use Rattle.totem_plain.proofs.Common.{◌≡◌, ◌≢◌, inl, inr, List, [], ◌∷◌, length, true, Result, Ok, Err, Vec, Global, vec_len, refl, sym, ◌∙◌, arith, ◌==◌, Decides-eqb, Log, No, IsAnswered, Numbering, Certified, Answers, passed_on}
use Rattle.std.specs.Result.{IsErrAnd}
use Rattle.totem_evs.specs.declared.fault.Fault.{Fault}
use Rattle.totem_evs.proofs.Synchronous.{meets_passes, meets_configurations, synchronous}
use Rattle.totem_outcome.specs.declared.accepted.Accepted.{Accepted}
use Rattle.totem_outcome.specs.declared.certificate_fault.CertificateFault.{CertificateFault}
use Rattle.totem_outcome.specs.declared.check_fault.CheckFault.{CheckFault}
use Rattle.totem_outcome.specs.CheckFaults.{check_fault}
use Rattle.totem_outcome.specs.Checks.{ListsOpen, Checks}
use Rattle.totem_plain.specs.Found.{ListsFirst}

no_fault : (faults : List Fault) → length faults ≡ 0 → faults ≡ []
no_fault [] none = refl
no_fault (fault ∷ faults) none = absurd (omega arith)

pub none_listed : (faults : Vec Fault Global) → true ≡ (vec_len faults == 0) → faults.items ≡ []
none_listed faults h = no_fault faults.items (sym faults.ok.0 ∙ (Decides-eqb (vec_len faults) 0).0 (sym h))

-- the faults are the answer
pub answered : (run : List Log) (lines : List Numbering) (faults : List Fault) → Certified run lines → faults ≢ [] → ListsFirst run faults → IsAnswered run (No faults)
answered run lines faults h k m = grind arith

-- where there are none, the run meets the specifications
pub accepted : (run : List Log) (lines : List Numbering) (faults : List Fault) (open_lists : Accepted) → Certified run lines → faults ≡ [] → ListsFirst run faults → ListsOpen run open_lists → Checks run lines (Ok open_lists)
accepted run lines faults open_lists c none (inl (more, a)) lists = absurd (more none)
accepted run lines faults open_lists c none (inr (inl (more, a, b))) lists = absurd (more none)
accepted run lines faults open_lists c none (inr (inr (a, b, d))) lists = (record { certified = c; meets = synchronous run lines (meets_passes run a b) c (meets_configurations run (rw none at d)) }, lists)

-- a fault of the certificate is the result
pub refused : (run : List Log) (lines : List Numbering) (fault : CertificateFault) (r : Result Accepted CheckFault) → IsErrAnd r (λ e. e ≡ check_fault fault) → Answers run lines (Err fault) → Checks run lines r
refused run lines fault (Ok a) is h = absurd is
refused run lines fault (Err e) is h = rw is (passed_on run lines fault h)
