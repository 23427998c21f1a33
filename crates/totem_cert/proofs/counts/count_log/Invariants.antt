use Rattle.totem_cert.proofs.CountSteps.{CountsBehind}
use Rattle.totem_cert.proofs.counts.count_log.Given as goal

abbrev pub invariant-loop-at : goal.invariant-loop-at
invariant-loop-at l = CountsBehind l.messages l.entries l.row l.initial.counts l.counts l.at
