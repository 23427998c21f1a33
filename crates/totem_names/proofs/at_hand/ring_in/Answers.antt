use Rattle.totem_names.specs.Parsers.{ring_at}
use Rattle.totem_names.proofs.Readers.{begins, called}
use Rattle.totem_names.proofs.at_hand.ring_in.Goals as goal

pub returns : goal.returns
unfolding ring_at
returns c = called _ _ _ _ _ _ _ (called _ _ _ _ _ _ _ (begins _ _) c.in_ok-seq.ensures.number) c.in_ok-rep.ensures
