use Rattle.totem_audit.specs.Jobs.{AreRight}
use Rattle.totem_audit.proofs.sharing.do_span.Given as goal

abbrev pub invariant-loop-index : goal.invariant-loop-index
invariant-loop-index g l = AreRight l.jobs.run.now.logs l.jobs.rings.items l.results.items
