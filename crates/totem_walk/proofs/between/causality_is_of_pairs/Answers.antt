use Rattle.totem_walk.proofs.Joining.{of_pairs}
use Rattle.totem_walk.proofs.between.causality_is_of_pairs.Goals as goal

pub returns : goal.returns
returns c = of_pairs
