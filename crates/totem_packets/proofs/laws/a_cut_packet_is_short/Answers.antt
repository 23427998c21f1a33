use Rattle.totem_packets.proofs.Decided.{cut_is_short}
use Rattle.totem_packets.proofs.laws.a_cut_packet_is_short.Goals as goal

pub returns : goal.returns
returns c = cut_is_short
