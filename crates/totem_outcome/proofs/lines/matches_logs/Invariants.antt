use Rattle.totem_outcome.proofs.Matching.{LinesBefore}
use Rattle.totem_outcome.proofs.lines.matches_logs.Given as goal

abbrev pub invariant-loop-at : goal.invariant-loop-at
invariant-loop-at l = LinesBefore l.logs l.lines l.at
