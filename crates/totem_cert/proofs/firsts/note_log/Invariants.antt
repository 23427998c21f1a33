use Rattle.totem_cert.specs.Firsts.{AreFirstsTo}
use Rattle.totem_cert.proofs.firsts.note_log.Given as goal

abbrev pub invariant-loop-at : goal.invariant-loop-at
invariant-loop-at l = AreFirstsTo l.run.logs l.table l.lines l.wanted l.firsts l.k l.at
