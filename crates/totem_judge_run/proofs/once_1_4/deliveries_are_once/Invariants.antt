use Rattle.totem_judge_run.specs.declared.once_1_4.Once.TheVariants as once
use Rattle.totem_judge_run.specs.Once.{messages_in}
use Rattle.totem_judge_run.proofs.Distinct.{AreDistinct}
use Rattle.totem_judge_run.proofs.Placed.{EachBefore}
use Rattle.totem_judge_run.proofs.once_1_4.deliveries_are_once.Given as goal

abbrev pub invariant-loop-log : goal.invariant-loop-log
invariant-loop-log l = EachBefore (λ entries. AreDistinct (messages_in once.Deliver entries)) l.logs l.log-index
