use Rattle.totem_cert.specs.Progress.{IsFullBefore}
use Rattle.totem_cert.proofs.numbering.first_left.Given as goal

abbrev pub invariant-loop-k : goal.invariant-loop-k
invariant-loop-k l = IsFullBefore l.log-items l.lines l.k
