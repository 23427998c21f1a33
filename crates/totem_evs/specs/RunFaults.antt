-- The faults of a run's text, their numbers and their names (docs/SPECIFICATIONS.md, "Run text").
use Rattle.std.specs.Prelude.{ℕ, List, codes}
use Rattle.totem_names.specs.declared.fault.TextFault.{TextFault}
use Rattle.totem_names.specs.declared.fault.TextFault.TheVariants as text
use Rattle.totem_names.specs.declared.fault.ReadError.{ReadError}
use Rattle.totem_names.specs.declared.fault.ReadError.TheVariants as errors
use Rattle.totem_evs.specs.declared.run_fault.RunFault.{RunFault}
use Rattle.totem_evs.specs.declared.run_fault.RunFault.TheVariants as faults

-- the number of a fault
abbrev pub fault_number : RunFault → ℕ
fault_number faults.Header = 1
fault_number faults.Word = 2
fault_number faults.Number = 3
fault_number faults.Order = 4
fault_number faults.Members = 5
fault_number faults.End = 6
fault_number faults.Truncated = 7
fault_number faults.TooMany = 8
fault_number (faults.MissingLog p) = 9
fault_number faults.Read = 10
fault_number faults.Memory = 11

-- the name of a fault
abbrev pub fault_name : RunFault → List ℕ
fault_name faults.Header = codes "Header"
fault_name faults.Word = codes "Word"
fault_name faults.Number = codes "Number"
fault_name faults.Order = codes "Order"
fault_name faults.Members = codes "Members"
fault_name faults.End = codes "End"
fault_name faults.Truncated = codes "Truncated"
fault_name faults.TooMany = codes "TooMany"
fault_name (faults.MissingLog p) = codes "MissingLog"
fault_name faults.Read = codes "Read"
fault_name faults.Memory = codes "Memory"

-- the fault of a run for a fault of the grammar
abbrev pub text_fault : TextFault → RunFault
text_fault text.Header = faults.Header
text_fault text.Word = faults.Word
text_fault text.Number = faults.Number
text_fault text.Order = faults.Order
text_fault text.Members = faults.Members
text_fault text.End = faults.End
text_fault text.Truncated = faults.Truncated
text_fault text.TooMany = faults.TooMany

-- the fault of a run for an error of a reader
abbrev pub run_fault : ReadError → RunFault
run_fault errors.Memory = faults.Memory
run_fault errors.Read = faults.Read
run_fault (errors.Text f) = text_fault f
