-- The faults of a step of membership, by number and name (docs/PROTOCOL.md, "Gathering").
use Rattle.std.specs.Prelude.{ℕ, List, codes}
use Rattle.totem_member.specs.declared.fault.MemberFault.{MemberFault}
use Rattle.totem_member.specs.declared.fault.MemberFault.TheVariants.{Stranger, Stale, Range, Memory}

abbrev pub fault_number : MemberFault → ℕ
fault_number Stranger = 1
fault_number Stale = 2
fault_number Range = 3
fault_number Memory = 4

abbrev pub fault_name : MemberFault → List ℕ
fault_name Stranger = codes "Stranger"
fault_name Stale = codes "Stale"
fault_name Range = codes "Range"
fault_name Memory = codes "Memory"
