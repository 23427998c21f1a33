-- Lines for the stream of errors.
use Rattle.totem_certificate.proofs.Common.{◌≡◌, ◌++◌, codes, refl, line}
use Rattle.totem_evs.specs.declared.run_fault.RunFault.{RunFault}
use Rattle.totem_evs.specs.declared.run_fault.RunFault.TheVariants as run_faults
use Rattle.totem_evs.specs.RunFaults.{fault_number, fault_name}
use Rattle.totem_certificate.specs.declared.cert_fault.CertFault.{CertFault}
use Rattle.totem_certificate.specs.declared.cert_fault.CertFault.TheVariants as cert_faults
use Rattle.totem_certificate.specs.CertFaults.{fault_number as cert_fault_number, fault_name as cert_fault_name}
use Rattle.totem_verdicts.specs.Endings.{refusal_text, missing_text, run_line, cert_line}

pub run_not_read : (fault : RunFault) → (fault ≡ run_faults.Read → ⊥)
    → line (refusal_text (codes "totem: run refused: ") (fault_number fault) (fault_name fault) ++ missing_text fault) ≡ run_line fault
run_not_read run_faults.Header no_read = refl
run_not_read run_faults.Word no_read = refl
run_not_read run_faults.Number no_read = refl
run_not_read run_faults.Order no_read = refl
run_not_read run_faults.Members no_read = refl
run_not_read run_faults.End no_read = refl
run_not_read run_faults.Truncated no_read = refl
run_not_read run_faults.TooMany no_read = refl
run_not_read (run_faults.MissingLog p) no_read = refl
run_not_read run_faults.Read no_read = absurd (no_read refl)
run_not_read run_faults.Memory no_read = refl

pub cert_not_read : (fault : CertFault) → (fault ≡ cert_faults.Read → ⊥)
    → line (refusal_text (codes "totem: certificate unreadable: ") (cert_fault_number fault) (cert_fault_name fault)) ≡ cert_line fault
cert_not_read cert_faults.Header no_read = refl
cert_not_read cert_faults.Word no_read = refl
cert_not_read cert_faults.Number no_read = refl
cert_not_read cert_faults.Order no_read = refl
cert_not_read cert_faults.Truncated no_read = refl
cert_not_read cert_faults.TooMany no_read = refl
cert_not_read cert_faults.End no_read = refl
cert_not_read cert_faults.Read no_read = absurd (no_read refl)
cert_not_read cert_faults.Memory no_read = refl
