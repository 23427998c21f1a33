use Rattle.totem_judge_run.proofs.Common.{◌≡◌, AllWithin}
use Rattle.totem_judge_run.proofs.ends_2_1.index_of.Given as goal

abbrev pub invariant-loop-k : goal.invariant-loop-k
invariant-loop-k l = AllWithin (λ log. log.proc ≡ l.proc → ⊥) l.log-items 0 l.k
