use Rattle.totem_names.proofs.InHand.{number_stands}
use Rattle.totem_names.proofs.at_hand.number_in.Goals as goal

pub returns-clause-number : goal.returns-clause-number
returns-clause-number c = number_stands _ _ _ _ c.args.bytes.now c.in_ok-rest.rest.now c.args.at _ c.in_ok-rest.ensures.lookup.0.2 c.in_ok-number.ensures.number c.if-byte-end.false
