-- The faults of calls from stream to stream that give a verdict.
use Rattle.std.specs.Prelude.{ℕ, List, codes}
use Rattle.totem_evs.specs.declared.run_fault.RunFault.{RunFault}
use Rattle.totem_evs.specs.declared.run_fault.RunFault.TheVariants as run_faults
use Rattle.totem_certificate.specs.declared.cert_fault.CertFault.{CertFault}
use Rattle.totem_certificate.specs.declared.cert_fault.CertFault.TheVariants as cert_faults
use Rattle.totem_evs.specs.declared.writing.WriteFault.{WriteFault}
use Rattle.totem_evs.specs.declared.writing.WriteFault.TheVariants as write_faults
use Rattle.totem_verdicts.specs.declared.verdict_fault.VerdictFault.{VerdictFault}
use Rattle.totem_verdicts.specs.declared.verdict_fault.VerdictFault.TheVariants as faults

-- the number and the name of a fault
abbrev pub verdict_number : VerdictFault → ℕ
verdict_number (faults.Run fault) = 1
verdict_number (faults.Cert fault) = 2
verdict_number (faults.Refused fault) = 3
verdict_number faults.Memory = 6
verdict_number faults.Write = 7

abbrev pub verdict_name : VerdictFault → List ℕ
verdict_name (faults.Run fault) = codes "Run"
verdict_name (faults.Cert fault) = codes "Cert"
verdict_name (faults.Refused fault) = codes "Refused"
verdict_name faults.Memory = codes "Memory"
verdict_name faults.Write = codes "Write"

-- a fault of the run as one of the whole call: out of memory is reported as such
abbrev pub run_verdict_fault : RunFault → VerdictFault
run_verdict_fault run_faults.Memory = faults.Memory
run_verdict_fault fault = faults.Run fault

-- a fault of the certificate's text as one of the whole call
abbrev pub cert_verdict_fault : CertFault → VerdictFault
cert_verdict_fault cert_faults.Memory = faults.Memory
cert_verdict_fault fault = faults.Cert fault

-- a fault of writing a report as one of the whole call
abbrev pub write_verdict_fault : WriteFault → VerdictFault
write_verdict_fault write_faults.Memory = faults.Memory
write_verdict_fault write_faults.Write = faults.Write
