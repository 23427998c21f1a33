use Rattle.totem_names.specs.Parsers.{transitional_at}
use Rattle.totem_names.proofs.Readers.{begins, called}
use Rattle.totem_names.proofs.at_hand.transitional_in.Goals as goal

pub returns : goal.returns
unfolding transitional_at
returns c = called _ _ _ _ _ _ _ (called _ _ _ _ _ _ _ (begins _ _) c.in_ok-next.ensures) c.in_ok-least.ensures
