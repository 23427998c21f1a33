use Rattle.totem_judge_run.proofs.Ending.{EndsBefore}
use Rattle.totem_judge_run.proofs.waitings.last_changes.Given as goal

abbrev pub invariant-loop-log : goal.invariant-loop-log
invariant-loop-log l = EndsBefore l.logs l.log-index l.ends.items
