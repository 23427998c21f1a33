use Rattle.totem_judge_certificate.specs.Walks.{IsLeastTo}
use Rattle.totem_judge_certificate.proofs.walk.least_head.Given as goal

abbrev pub invariant-loop-log : goal.invariant-loop-log
invariant-loop-log l = IsLeastTo l.lines l.passed l.log l.least
