-- The plan that the arguments of a run ask for (docs/PROTOCOL.md, "A run in threads").
use Rattle.totem_threads.specs.Starts.{run_plan}
use Rattle.totem_threads.specs.declared.plan.RunPlan.{RunPlan}
use Rattle.totem_verdicts.specs.declared.run_words.RunWords.{RunWords}

abbrev pub plan_of : RunWords → RunPlan
plan_of w = run_plan w.nodes w.ticks w.seed (record { lose = w.lose; repeat = w.repeat; hold = w.hold })
