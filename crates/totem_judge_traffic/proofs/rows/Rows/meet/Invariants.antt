use Rattle.totem_judge_traffic.specs.Lacking.{RowsAreApart}
use Rattle.totem_judge_traffic.proofs.rows.Rows.meet.Given as goal

abbrev pub invariant-loop-log : goal.invariant-loop-log
invariant-loop-log l = RowsAreApart l.self l.by l.others l.log
