use Rattle.std.proofs.Common.{rules}
use Rattle.totem_judge_traffic.proofs.Rowing.{in_more, noted_more}
use Rattle.totem_judge_traffic.proofs.rows.Rows.add_to_row.Goals as goal

pub invariant_of-self : goal.invariant_of-self
invariant_of-self c = record { all = in_more _ _ _ _ _ _ _ (search rules) c.union.ensures c.union-self.ensures c.args.self.now.all; last = noted_more _ _ _ _ _ _ _ (search rules) c.union.ensures (search rules) c.args.self.now.last }
