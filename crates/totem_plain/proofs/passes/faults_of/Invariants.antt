use Rattle.totem_plain.proofs.Common.{take, ListsRings}
use Rattle.totem_plain.proofs.passes.faults_of.Given as goal

abbrev pub invariant-loop-index : goal.invariant-loop-index
invariant-loop-index l = ListsRings l.run.logs l.spec (take l.index l.rings) l.faults.items
