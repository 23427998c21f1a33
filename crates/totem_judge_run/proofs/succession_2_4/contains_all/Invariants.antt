use Rattle.totem_judge_run.proofs.Common.{take, All, Contains}
use Rattle.totem_judge_run.proofs.succession_2_4.contains_all.Given as goal

abbrev pub invariant-loop-proc : goal.invariant-loop-proc
invariant-loop-proc l = All (Contains l.members) (take l.proc-index l.proc-items)
