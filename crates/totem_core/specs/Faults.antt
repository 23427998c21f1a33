-- The faults of a node's step, by number and name, and a part's refusal as the node gives it (docs/PROTOCOL.md, "The node").
use Rattle.std.specs.Prelude.{ℕ, List, codes}
use Rattle.totem_ring.specs.declared.fault.RingFault.{RingFault}
use Rattle.totem_ring.specs.declared.fault.RingFault.TheVariants as ring_fault
use Rattle.totem_member.specs.declared.fault.MemberFault.{MemberFault}
use Rattle.totem_member.specs.declared.fault.MemberFault.TheVariants as member_fault
use Rattle.totem_core.specs.declared.fault.NodeFault.{NodeFault}
use Rattle.totem_core.specs.declared.fault.NodeFault.TheVariants.{Stopped, OtherRing, Repeat, Stale, Stranger, Range, Full, Memory}

abbrev pub fault_number : NodeFault → ℕ
fault_number Stopped = 1
fault_number OtherRing = 2
fault_number Repeat = 3
fault_number Stale = 4
fault_number Stranger = 5
fault_number Range = 6
fault_number Full = 7
fault_number Memory = 8

abbrev pub fault_name : NodeFault → List ℕ
fault_name Stopped = codes "Stopped"
fault_name OtherRing = codes "OtherRing"
fault_name Repeat = codes "Repeat"
fault_name Stale = codes "Stale"
fault_name Stranger = codes "Stranger"
fault_name Range = codes "Range"
fault_name Full = codes "Full"
fault_name Memory = codes "Memory"

abbrev pub of_ring : RingFault → NodeFault
of_ring ring_fault.OtherRing = OtherRing
of_ring ring_fault.Repeat = Repeat
of_ring ring_fault.Range = Range
of_ring ring_fault.Full = Full
of_ring ring_fault.Memory = Memory

abbrev pub of_member : MemberFault → NodeFault
of_member member_fault.Stranger = Stranger
of_member member_fault.Stale = Stale
of_member member_fault.Range = Range
of_member member_fault.Memory = Memory
