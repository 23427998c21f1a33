use Rattle.totem_judge_traffic.specs.Clean.{HasAllBehind}
use Rattle.totem_judge_traffic.proofs.gap_6_3.behind_with.Given as goal

abbrev pub invariant-loop-following : goal.invariant-loop-following
invariant-loop-following l = HasAllBehind l.list l.sender l.following-index l.logs
