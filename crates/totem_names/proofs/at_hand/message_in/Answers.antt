use Rattle.totem_names.specs.Parsers.{message_at}
use Rattle.totem_names.proofs.Readers.{begins, called}
use Rattle.totem_names.proofs.at_hand.message_in.Goals as goal

pub returns : goal.returns
unfolding message_at
returns c = called _ _ _ _ _ _ _ (called _ _ _ _ _ _ _ (begins _ _) c.in_ok-ring.ensures) c.in_ok-number.ensures.number
