use Rattle.totem_judge_run.proofs.Common.{◌≡◌, ◌++◌, take, AllWithin, IsNoSendBetween, messages_in}
use Rattle.totem_judge_run.specs.declared.once_1_4.Once.TheVariants as once
use Rattle.totem_judge_run.proofs.once_1_4.add_sends.Given as goal

abbrev pub invariant-loop-entry : goal.invariant-loop-entry
invariant-loop-entry l = (l.list.items ≡ l.initial.list.items ++ messages_in once.Send (take l.entry-index l.entries)) × AllWithin IsNoSendBetween l.entries 0 l.entry-index
