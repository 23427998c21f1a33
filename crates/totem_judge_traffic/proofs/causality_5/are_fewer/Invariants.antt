use Rattle.totem_judge_traffic.proofs.InSequence.{FewerSoFar}
use Rattle.totem_judge_traffic.proofs.causality_5.are_fewer.Given as goal

abbrev pub invariant-loop-message : goal.invariant-loop-message
invariant-loop-message l = FewerSoFar l.sent l.message-index l.last
