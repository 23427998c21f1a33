use Rattle.totem_judge_run.proofs.Gathering.{Gathered}
use Rattle.totem_judge_run.proofs.waitings.waiting.Given as goal

abbrev pub invariant-loop-k : goal.invariant-loop-k
invariant-loop-k l = Gathered l.log-items l.k l.list.items
