use Rattle.totem_judge_run.proofs.Walk.{Knows}
use Rattle.totem_judge_run.proofs.misplaced_2_2.first_misplaced.Given as goal

abbrev pub invariant-loop-i : goal.invariant-loop-i
invariant-loop-i l = Knows l.log l.i l.standing l.failed
