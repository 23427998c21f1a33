use Rattle.totem_judge_run.proofs.EndsTogether.{EndsBefore}
use Rattle.totem_judge_run.proofs.ends_2_1.ends_of.Given as goal

abbrev pub invariant-loop-log : goal.invariant-loop-log
invariant-loop-log l = EndsBefore l.logs l.log-index l.ends.items
