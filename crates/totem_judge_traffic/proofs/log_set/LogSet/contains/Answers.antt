use Rattle.std.proofs.Common.{eqb-true, eq-eqb}
use Rattle.std.proofs.lemmas.Nat.Bits.{shr_and_one}
use Rattle.totem_judge_traffic.specs.LogSets.{Has}
use Rattle.totem_judge_traffic.proofs.log_set.LogSet.contains.Goals as goal

pub returns : goal.returns
unfolding Has
returns c = rw shr_and_one (eqb-true _ 1, eq-eqb _ 1)
