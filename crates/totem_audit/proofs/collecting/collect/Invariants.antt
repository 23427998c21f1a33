use Rattle.totem_audit.specs.Jobs.{AreKnown}
use Rattle.totem_audit.proofs.collecting.collect.Given as goal

abbrev pub invariant-loop-done : goal.invariant-loop-done
invariant-loop-done l = AreKnown l.jobs.run.now.logs l.jobs.rings.items l.known.items
