use Rattle.totem_judge_traffic.specs.Clean.{LacksTo}
use Rattle.totem_judge_traffic.proofs.causality_5.add_to.Given as goal

abbrev pub invariant-loop-index : goal.invariant-loop-index
invariant-loop-index l = LacksTo l.logs l.got l.index l.rows
