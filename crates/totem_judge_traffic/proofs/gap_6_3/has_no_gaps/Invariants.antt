use Rattle.totem_judge_traffic.specs.Clean.{NoGapsTo, LacksTo, LacksBehindTo}
use Rattle.totem_judge_traffic.proofs.gap_6_3.has_no_gaps.Given as goal

abbrev pub invariant-loop-message : goal.invariant-loop-message
invariant-loop-message l = NoGapsTo l.logs l.following l.got l.message-index × LacksTo l.logs l.got l.message-index l.lacking × LacksBehindTo l.logs l.following l.got l.message-index l.lacking_behind
