use Rattle.totem_weave.proofs.LastSteps.{adopts_last}
use Rattle.totem_weave.proofs.adopting.only_adopts_last.Goals as goal

pub returns : goal.returns
returns c = adopts_last
