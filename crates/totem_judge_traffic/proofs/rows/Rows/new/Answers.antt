use Rattle.totem_judge_traffic.proofs.Rowing.{in_copies, noted_none}
use Rattle.totem_judge_traffic.proofs.rows.Rows.new.Goals as goal

pub invariant_of-result : goal.invariant_of-result
invariant_of-result c = record { all = in_copies 32 c.none.result c.none-2.result c.none.ensures; last = noted_none _ _ _ c.none-3.ensures }
