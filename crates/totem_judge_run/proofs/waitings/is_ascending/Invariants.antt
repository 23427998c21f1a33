use Rattle.totem_judge_run.proofs.PendingOrder.{RisesTo}
use Rattle.totem_judge_run.proofs.waitings.is_ascending.Given as goal

abbrev pub invariant-loop-k : goal.invariant-loop-k
invariant-loop-k l = RisesTo l.list l.k
