use Rattle.totem_judge_traffic.specs.Lacking.{KeepsRows, AddsToRows}
use Rattle.totem_judge_traffic.proofs.rows.Rows.add_to_rows.Given as goal

abbrev pub invariant-loop-log : goal.invariant-loop-log
invariant-loop-log l = KeepsRows l.fn.self l.self × AddsToRows l.by l.lacking l.log l.self
