-- The faults of a certificate's text, their numbers and their names (docs/SPECIFICATIONS.md, "Certificate text").
use Rattle.std.specs.Prelude.{ℕ, List, codes}
use Rattle.totem_names.specs.declared.fault.TextFault.{TextFault}
use Rattle.totem_names.specs.declared.fault.TextFault.TheVariants as text
use Rattle.totem_names.specs.declared.fault.ReadError.{ReadError}
use Rattle.totem_names.specs.declared.fault.ReadError.TheVariants as errors
use Rattle.totem_certificate.specs.declared.cert_fault.CertFault.{CertFault}
use Rattle.totem_certificate.specs.declared.cert_fault.CertFault.TheVariants as faults

-- the number of a fault
abbrev pub fault_number : CertFault → ℕ
fault_number faults.Header = 1
fault_number faults.Word = 2
fault_number faults.Number = 3
fault_number faults.Order = 4
fault_number faults.Truncated = 5
fault_number faults.TooMany = 6
fault_number faults.End = 7
fault_number faults.Read = 8
fault_number faults.Memory = 9

-- the name of a fault
abbrev pub fault_name : CertFault → List ℕ
fault_name faults.Header = codes "Header"
fault_name faults.Word = codes "Word"
fault_name faults.Number = codes "Number"
fault_name faults.Order = codes "Order"
fault_name faults.Truncated = codes "Truncated"
fault_name faults.TooMany = codes "TooMany"
fault_name faults.End = codes "End"
fault_name faults.Read = codes "Read"
fault_name faults.Memory = codes "Memory"

-- a fault that the grammar of a certificate can give: none of members, and none of bytes after the last line
abbrev pub IsOwnFault : TextFault → Type 0
IsOwnFault text.Header = Unit {0}
IsOwnFault text.Word = Unit {0}
IsOwnFault text.Number = Unit {0}
IsOwnFault text.Order = Unit {0}
IsOwnFault text.Members = ⊥
IsOwnFault text.End = ⊥
IsOwnFault text.Truncated = Unit {0}
IsOwnFault text.TooMany = Unit {0}

-- the fault of a certificate for a fault of a text
abbrev pub text_fault : TextFault → CertFault
text_fault text.Header = faults.Header
text_fault text.Word = faults.Word
text_fault text.Number = faults.Number
text_fault text.Order = faults.Order
text_fault text.Members = faults.Order
text_fault text.End = faults.End
text_fault text.Truncated = faults.Truncated
text_fault text.TooMany = faults.TooMany

-- the fault of a certificate for an error of a reader
abbrev pub cert_fault : ReadError → CertFault
cert_fault errors.Memory = faults.Memory
cert_fault errors.Read = faults.Read
cert_fault (errors.Text f) = text_fault f
