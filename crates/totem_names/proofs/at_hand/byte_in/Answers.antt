use Rattle.std.proofs.Common.{refl}
use Rattle.totem_names.proofs.InHand.{byte_stands}
use Rattle.totem_names.proofs.at_hand.byte_in.Goals as goal

pub returns : goal.returns
returns c = byte_stands c.args.bytes.now c.args.at _ c.if-at-bytes.false refl
