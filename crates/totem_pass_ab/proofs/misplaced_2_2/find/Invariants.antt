use Rattle.totem_pass_ab.proofs.Common.{StaysInPlace, EachBefore}
use Rattle.totem_pass_ab.proofs.misplaced_2_2.find.Given as goal

abbrev pub invariant-loop-log : goal.invariant-loop-log
invariant-loop-log l = EachBefore StaysInPlace l.log-items l.log-index
