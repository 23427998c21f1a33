use Rattle.totem_judge_run.proofs.Common.{◌≡◌, take, messages_in}
use Rattle.totem_judge_run.specs.declared.once_1_4.Once.TheVariants as once
use Rattle.totem_judge_run.proofs.once_1_4.deliveries_in.Given as goal

abbrev pub invariant-loop-entry : goal.invariant-loop-entry
invariant-loop-entry l = l.list.items ≡ messages_in once.Deliver (take l.entry-index l.entries)
