use Rattle.totem_cert.proofs.Next.{NoneReadyBefore}
use Rattle.totem_cert.proofs.counted.first_counted.Given as goal

abbrev pub invariant-loop-k : goal.invariant-loop-k
invariant-loop-k l = NoneReadyBefore l.log-items l.lines l.k
