use Rattle.totem_pass_d.proofs.Common.{take, AreFound}
use Rattle.totem_pass_d.proofs.pass.pass_d_of.Given as goal

abbrev pub invariant-loop-index : goal.invariant-loop-index
invariant-loop-index l = AreFound l.jobs.run.now.logs (take l.index l.jobs.rings.items) l.found
