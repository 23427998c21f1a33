use Rattle.totem_search.proofs.Searching.{none_in_log_more}
use Rattle.totem_search.proofs.search.least_in.Goals as goal

pub loop-at-preserved : goal.loop-at-preserved
loop-at-preserved g c = none_in_log_more _ _ _ (rw c.in_default.is at c.in_ok-rest.ensures) c.loop-at.invariant
