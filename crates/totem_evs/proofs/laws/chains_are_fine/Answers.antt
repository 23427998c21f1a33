use Rattle.totem_evs.proofs.Causal.{chains}
use Rattle.totem_evs.proofs.laws.chains_are_fine.Goals as goal

pub returns : goal.returns
returns c = chains
