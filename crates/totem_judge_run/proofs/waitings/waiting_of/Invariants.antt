use Rattle.totem_judge_run.proofs.WhoWaits.{WaitsAmong}
use Rattle.totem_judge_run.proofs.waitings.waiting_of.Given as goal

abbrev pub invariant-loop-other : goal.invariant-loop-other
invariant-loop-other l = WaitsAmong l.run.logs l.proc l.conf l.other-items l.other-index l.list.items
