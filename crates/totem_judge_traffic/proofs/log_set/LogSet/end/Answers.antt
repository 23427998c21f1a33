use Rattle.std.proofs.lemmas.Nat.{leading_le}
use Rattle.totem_judge_traffic.proofs.log_set.LogSet.end.Goals as goal

pub overflow_sub-result : goal.overflow_sub-result
overflow_sub-result c = leading_le 32 c.args.self.bits
