use Rattle.totem_judge_run.proofs.Common.{◌≡◌, take, IsNoSendBetween, sent_in}
use Rattle.std.specs.List.{All}
use Rattle.totem_judge_run.proofs.Placed.{EachBefore}
use Rattle.totem_judge_run.proofs.once_1_4.sends_are_once.Given as goal

abbrev pub invariant-loop-log : goal.invariant-loop-log
invariant-loop-log l = (l.sent.items ≡ sent_in (take l.log-index l.logs)) × EachBefore (All IsNoSendBetween) l.logs l.log-index
