-- The faults of packets, their numbers and their names (docs/PROTOCOL.md, "Packets").
use Rattle.std.specs.Prelude.{ℕ, List, codes}
use Rattle.totem_packets.specs.declared.fault.PacketFault.{PacketFault}
use Rattle.totem_packets.specs.declared.fault.PacketFault.TheVariants.{Short, Kind, Range, Trailing, Memory}

-- the number of a fault
abbrev pub fault_number : PacketFault → ℕ
fault_number Short = 1
fault_number Kind = 2
fault_number Range = 3
fault_number Trailing = 4
fault_number Memory = 5

-- the name of a fault
abbrev pub fault_name : PacketFault → List ℕ
fault_name Short = codes "Short"
fault_name Kind = codes "Kind"
fault_name Range = codes "Range"
fault_name Trailing = codes "Trailing"
fault_name Memory = codes "Memory"
