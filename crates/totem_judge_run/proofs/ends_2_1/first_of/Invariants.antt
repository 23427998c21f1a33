use Rattle.totem_judge_run.proofs.EndsTogether.{TogetherBefore}
use Rattle.totem_judge_run.proofs.ends_2_1.first_of.Given as goal

abbrev pub invariant-loop-k : goal.invariant-loop-k
invariant-loop-k l = TogetherBefore l.log-items l.k
