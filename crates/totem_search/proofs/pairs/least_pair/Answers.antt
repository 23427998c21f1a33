use Rattle.totem_search.proofs.Pairing.{one_or_two_begins}
use Rattle.totem_search.proofs.pairs.least_pair.Goals as goal

pub least_places-requires-clause-begins : goal.least_places-requires-clause-begins
least_places-requires-clause-begins g c = rw c.run.ensures (one_or_two_begins _ _ _)
