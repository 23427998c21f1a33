use Rattle.totem_judge_traffic.specs.Pending.{AddsMissing}
use Rattle.totem_judge_traffic.proofs.pending.push_missing.Given as goal

abbrev pub invariant-loop-at : goal.invariant-loop-at
invariant-loop-at l = AddsMissing l.sent l.at l.log l.proc l.fn.out.items l.out.items
