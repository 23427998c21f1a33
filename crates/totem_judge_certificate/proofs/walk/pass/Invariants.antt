use Rattle.totem_judge_certificate.specs.Walks.{AreOneBefore, IsStepped}
use Rattle.totem_judge_certificate.proofs.walk.pass.Given as goal

abbrev pub invariant-loop-log : goal.invariant-loop-log
invariant-loop-log l = record {
  ones : AreOneBefore l.logs l.lines l.initial.passed l.log l.head.log l.first l.head.number;
  stepped : IsStepped l.lines l.head.number l.initial.passed l.passed l.log;
}
