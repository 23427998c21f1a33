use Rattle.totem_audit.specs.Jobs.{AreKnown}
use Rattle.totem_audit.proofs.last_pass.by_job.Given as goal

abbrev pub invariant-loop : goal.invariant-loop
invariant-loop g l = AreKnown l.jobs.run.now.logs l.jobs.rings.items l.known.items
