use Rattle.totem_names.proofs.InHand.{word_stands}
use Rattle.totem_names.proofs.at_hand.word_in.Goals as goal

pub returns : goal.returns
returns c = λ fault. word_stands fault c.args.bytes.now c.in_ok-rest.rest.now c.args.word.now c.args.at c.in_ok-rest.ensures.lookup.0.2 c.if-not-starts_with.ensures.value
