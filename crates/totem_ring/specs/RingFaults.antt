-- The faults of a ring's steps, their numbers and their names (docs/PROTOCOL.md, "The ring").
use Rattle.std.specs.Prelude.{ℕ, List, codes}
use Rattle.totem_ring.specs.declared.fault.RingFault.{RingFault}
use Rattle.totem_ring.specs.declared.fault.RingFault.TheVariants.{OtherRing, Repeat, Range, Full, Memory}

-- the number of a fault
abbrev pub fault_number : RingFault → ℕ
fault_number OtherRing = 1
fault_number Repeat = 2
fault_number Range = 3
fault_number Full = 4
fault_number Memory = 5

-- the name of a fault
abbrev pub fault_name : RingFault → List ℕ
fault_name OtherRing = codes "OtherRing"
fault_name Repeat = codes "Repeat"
fault_name Range = codes "Range"
fault_name Full = codes "Full"
fault_name Memory = codes "Memory"
