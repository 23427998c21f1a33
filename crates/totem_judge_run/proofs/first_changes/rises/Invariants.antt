use Rattle.totem_judge_run.proofs.EachOnce.{RiseTo}
use Rattle.totem_judge_run.proofs.first_changes.rises.Given as goal

abbrev pub invariant-loop-at : goal.invariant-loop-at
invariant-loop-at l = RiseTo l.list l.at l.last
