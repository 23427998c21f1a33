-- A fault of one field is the fault of the whole packet.
use Rattle.totem_packets.proofs.Common.{Result, refl, ◌>>=◌, Fails}
use Rattle.totem_packets.specs.declared.fault.PacketFault.{PacketFault}

pub passes_on : {A B : Type 0} (fault : PacketFault) (first : Result A PacketFault) (next : A → Result B PacketFault) → Fails fault first → Fails fault (first >>= next)
passes_on fault first next h = record { is = λ other. rw (h.is other) refl }
