use Rattle.totem_judge_run.proofs.Walking.{SoFar}
use Rattle.totem_judge_run.proofs.orderly.walk.Given as goal

abbrev pub invariant-loop-at : goal.invariant-loop-at
invariant-loop-at l = SoFar l.log l.at l.initial.sent.items l.sent.items l.initial.firsts l.firsts l.standing l.failed l.before
