-- The faults of writing a text, their numbers and their names.
use Rattle.std.specs.Prelude.{ℕ, List, codes}
use Rattle.totem_evs.specs.declared.writing.WriteFault.{WriteFault}
use Rattle.totem_evs.specs.declared.writing.WriteFault.TheVariants as faults

-- the number of a fault
abbrev pub fault_number : WriteFault → ℕ
fault_number faults.Memory = 1
fault_number faults.Write = 2

-- the name of a fault
abbrev pub fault_name : WriteFault → List ℕ
fault_name faults.Memory = codes "Memory"
fault_name faults.Write = codes "Write"
