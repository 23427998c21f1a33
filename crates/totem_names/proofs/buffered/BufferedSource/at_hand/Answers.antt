use Rattle.std.proofs.Common.{arith}
use Rattle.totem_names.proofs.AtHand.{held_front}
use Rattle.totem_names.proofs.buffered.BufferedSource.at_hand.Goals as goal

pub returns : goal.returns
returns g c = grind (arith, held_front)
