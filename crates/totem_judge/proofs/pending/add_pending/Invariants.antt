use Rattle.totem_judge.specs.Pending.{AddsAll}
use Rattle.totem_judge.proofs.pending.add_pending.Given as goal

abbrev pub invariant-loop-index : goal.invariant-loop-index
invariant-loop-index l = AddsAll l.traffic l.logs l.index l.fn.out.items l.out.items
