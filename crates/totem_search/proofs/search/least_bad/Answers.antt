use Rattle.totem_search.proofs.Searching.{event_begins}
use Rattle.totem_search.proofs.search.least_bad.Goals as goal

pub least-requires-clause-begins : goal.least-requires-clause-begins
least-requires-clause-begins g c = rw c.run.ensures (event_begins _ _ c.requires)
