use Rattle.totem_pass_d.proofs.Searching.{none_inside_more}
use Rattle.totem_pass_d.proofs.gap_6_3.GapsFinder.find_in.Goals as goal

pub loop-at-preserved : goal.loop-at-preserved
loop-at-preserved c = none_inside_more _ _ _ (rw c.in_default.is at c.in_ok-rest.ensures) c.loop-at.invariant
