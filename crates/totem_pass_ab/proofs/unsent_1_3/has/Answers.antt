use Rattle.totem_pass_ab.proofs.Sent.{found}
use Rattle.totem_pass_ab.proofs.unsent_1_3.has.Goals as goal

pub returns-else-matches : goal.returns-else-matches
returns-else-matches c = found _ _ c.binary_search.result _ c.is_ok.ensures.value c.binary_search.ensures.bound c.binary_search.ensures.ok
