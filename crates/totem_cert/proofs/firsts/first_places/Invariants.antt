use Rattle.totem_cert.specs.Firsts.{AreFirstsTo}
use Rattle.totem_cert.proofs.firsts.first_places.Given as goal

abbrev pub invariant-loop-k : goal.invariant-loop-k
invariant-loop-k l = AreFirstsTo l.run.logs l.table l.lines l.wanted l.firsts.items l.k 0
