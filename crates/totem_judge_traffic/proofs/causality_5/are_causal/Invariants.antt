use Rattle.totem_judge_traffic.proofs.Common.{◌≤◌, length, LacksTo, AreCausalTo}
use Rattle.totem_judge_traffic.proofs.causality_5.are_causal.Given as goal

abbrev pub invariant-loop-message : goal.invariant-loop-message
invariant-loop-message l = (l.taken ≤ length l.got) × LacksTo l.logs l.got l.taken l.rows × AreCausalTo l.logs l.got l.sent l.message-index
