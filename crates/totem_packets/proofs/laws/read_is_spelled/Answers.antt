use Rattle.totem_packets.proofs.Decided.{read_spelled}
use Rattle.totem_packets.proofs.laws.read_is_spelled.Goals as goal

pub returns : goal.returns
returns c = read_spelled
