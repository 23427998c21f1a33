use Rattle.totem_judge_run.proofs.Common.{◌≡◌, take, StaysInPlace, IsNoSendBetween, sent_in}
use Rattle.std.specs.List.{All}
use Rattle.totem_judge_run.proofs.ChangesMet.{LogsAreRight}
use Rattle.totem_judge_run.proofs.Placed.{EachBefore}
use Rattle.totem_judge_run.proofs.orderly.is_orderly.Given as goal

abbrev pub invariant-loop-log : goal.invariant-loop-log
invariant-loop-log l = record {
  sent : l.sent.items ≡ sent_in (take l.log-index l.run.logs);
  regular : EachBefore (All IsNoSendBetween) l.run.logs l.log-index;
  placed : EachBefore StaysInPlace l.run.logs l.log-index;
  changes : LogsAreRight l.run.logs l.firsts l.log-index;
}
