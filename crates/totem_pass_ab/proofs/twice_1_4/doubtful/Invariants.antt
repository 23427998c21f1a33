use Rattle.totem_pass_ab.proofs.Repeating.{OnceBefore}
use Rattle.totem_pass_ab.proofs.twice_1_4.doubtful.Given as goal

abbrev pub invariant-loop-k : goal.invariant-loop-k
invariant-loop-k l = OnceBefore l.list.items l.logs l.k
