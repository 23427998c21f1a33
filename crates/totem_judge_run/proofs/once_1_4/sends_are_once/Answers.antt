use Rattle.std.proofs.lemmas.Grind.{common_steps}
use Rattle.std.proofs.Common.{arith}
use Rattle.totem_judge_run.proofs.Common.{slice_get_read}
use Rattle.totem_judge_run.proofs.Distinct.{sent_more, sent_all, none_between, sends_once_if}
use Rattle.totem_judge_run.proofs.Placed.{one_more, each_process}
use Rattle.totem_judge_run.proofs.once_1_4.sends_are_once.Goals as goal

pub loop-log-preserved : goal.loop-log-preserved
loop-log-preserved c = grind (arith, common_steps, slice_get_read, sent_more, one_more)

pub returns : goal.returns
returns c = sends_once_if _ _ _ (each_process _ _ _ none_between c.loop-log-test.false c.loop-log.invariant.1) (sent_all _ _ _ c.loop-log-test.false c.loop-log.invariant.0) c.are_distinct.ensures
