use Rattle.totem_pass_d.proofs.Common.{take, AreFound}
use Rattle.totem_audit.specs.Jobs.{AreKnown}
use Rattle.totem_audit.proofs.collecting.complete.Given as goal

abbrev pub invariant-loop-index : goal.invariant-loop-index
invariant-loop-index g l = AreFound l.jobs.run.now.logs (take l.index l.jobs.rings.items) l.found × AreKnown l.jobs.run.now.logs l.jobs.rings.items l.known.items
