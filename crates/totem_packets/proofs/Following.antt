-- How more bytes change the result of a parser of packets, and which faults its fields have.
use Rattle.totem_packets.proofs.Common.{◌≡◌, ℕ, List, ◌++◌, Bool, true, false, Ok, Err, Parsed}
use Rattle.totem_packets.specs.declared.fault.PacketFault.{PacketFault}
use Rattle.totem_packets.specs.declared.fault.PacketFault.TheVariants.{Short, Kind, Range, Trailing, Memory}

-- the fault of too few bytes
abbrev pub is_short : PacketFault → Bool
is_short Short = true
is_short Kind = false
is_short Range = false
is_short Trailing = false
is_short Memory = false

-- the result when more bytes follow: the same value or fault, unless there were too few
abbrev pub Follows : {Y : Type 0} → List ℕ → Parsed Y → Parsed Y → Type 0
Follows more (Ok x) later = later ≡ Ok (x.0, x.1 ++ more)
Follows more (Err fault) later = is_short fault ≡ false → later ≡ Err fault

-- the faults that a field can have
abbrev pub IsOfField : PacketFault → Type 0
IsOfField Short = Unit {0}
IsOfField Kind = ⊥
IsOfField Range = Unit {0}
IsOfField Trailing = ⊥
IsOfField Memory = ⊥

-- a fault is one of these
abbrev pub HasFaultOf : {Y : Type 0} → (PacketFault → Type 0) → Parsed Y → Type 0
HasFaultOf Allowed (Ok x) = Unit {0}
HasFaultOf Allowed (Err fault) = Allowed fault
