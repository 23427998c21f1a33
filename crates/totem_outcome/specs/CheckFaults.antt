-- The checker's faults, their numbers and their names (docs/SPECIFICATIONS.md, "The checker").
use Rattle.std.specs.Prelude.{ℕ, List, codes}
use Rattle.totem_outcome.specs.declared.certificate_fault.CertificateFault.{CertificateFault}
use Rattle.totem_outcome.specs.declared.certificate_fault.CertificateFault.TheVariants as certificate
use Rattle.totem_outcome.specs.declared.check_fault.CheckFault.{CheckFault}
use Rattle.totem_outcome.specs.declared.check_fault.CheckFault.TheVariants as faults

-- the number of a fault
abbrev pub fault_number : CheckFault → ℕ
fault_number faults.Count = 1
fault_number faults.NotRising = 2
fault_number faults.SendNotBefore = 3
fault_number faults.TwinsDiffer = 4
fault_number faults.SharedPosition = 5
fault_number (faults.Broken f) = 6
fault_number faults.Memory = 7

-- the name of a fault
abbrev pub fault_name : CheckFault → List ℕ
fault_name faults.Count = codes "Count"
fault_name faults.NotRising = codes "NotRising"
fault_name faults.SendNotBefore = codes "SendNotBefore"
fault_name faults.TwinsDiffer = codes "TwinsDiffer"
fault_name faults.SharedPosition = codes "SharedPosition"
fault_name (faults.Broken f) = codes "Broken"
fault_name faults.Memory = codes "Memory"

-- the checker's fault for a fault of a certificate
abbrev pub check_fault : CertificateFault → CheckFault
check_fault certificate.Count = faults.Count
check_fault certificate.NotRising = faults.NotRising
check_fault certificate.SendNotBefore = faults.SendNotBefore
check_fault certificate.TwinsDiffer = faults.TwinsDiffer
check_fault certificate.SharedPosition = faults.SharedPosition
