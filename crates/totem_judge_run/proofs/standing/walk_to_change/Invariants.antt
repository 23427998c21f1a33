use Rattle.totem_evs.proofs.NextChanges.{NoneBetween}
use Rattle.totem_judge_run.proofs.standing.walk_to_change.Given as goal

abbrev pub invariant-loop-next : goal.invariant-loop-next
invariant-loop-next l = NoneBetween l.log l.at l.next
