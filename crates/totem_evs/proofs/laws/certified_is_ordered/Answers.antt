use Rattle.totem_evs.proofs.Ordered.{ordered}
use Rattle.totem_evs.proofs.laws.certified_is_ordered.Goals as goal

pub returns : goal.returns
returns c = ordered
