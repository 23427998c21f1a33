use Rattle.totem_judge_run.proofs.Common.{◌<◌, IsChange}
use Rattle.totem_search.proofs.Loops.{NoneBelow}
use Rattle.totem_search.proofs.following.next_change.Given as goal

abbrev pub invariant-loop-next : goal.invariant-loop-next
invariant-loop-next l = NoneBelow (λ k. (l.at < k) × IsChange l.log k) l.next
