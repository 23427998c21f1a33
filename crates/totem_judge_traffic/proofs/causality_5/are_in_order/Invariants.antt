use Rattle.totem_judge_traffic.proofs.InSequence.{OrderSoFar}
use Rattle.totem_judge_traffic.proofs.causality_5.are_in_order.Given as goal

abbrev pub invariant-loop-message : goal.invariant-loop-message
invariant-loop-message l = OrderSoFar l.got l.message-index l.begun l.last
