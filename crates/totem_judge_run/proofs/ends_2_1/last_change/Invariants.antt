use Rattle.std.proofs.Common.{◌-◌, length}
use Rattle.totem_judge_run.proofs.LogEnds.{NoneFrom}
use Rattle.totem_judge_run.proofs.ends_2_1.last_change.Given as goal

abbrev pub invariant-loop-back : goal.invariant-loop-back
invariant-loop-back l = NoneFrom l.log (length l.log - l.back)
