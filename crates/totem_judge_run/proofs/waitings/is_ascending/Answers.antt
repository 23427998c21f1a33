use Rattle.totem_judge_run.proofs.Common.{arith}
use Rattle.totem_judge_run.proofs.PendingOrder.{ascending}
use Rattle.totem_judge_run.proofs.waitings.is_ascending.Goals as goal

pub returns : goal.returns
returns c = ascending c.args.list.now (λ k d next. c.loop-k.invariant k d (omega arith))
