use Rattle.totem_search.specs.Adding.{Adds}
use Rattle.totem_plain.specs.Gathered.{WaitsFor}
use Rattle.totem_search.proofs.Adding.{AtSome}
use Rattle.totem_plain.proofs.left_open.WaitingGathered.add.Given as goal

abbrev pub invariant-loop-other : goal.invariant-loop-other
invariant-loop-other l = Adds (AtSome (WaitsFor l.run.logs l.proc l.conf) l.other-items l.other-index) l.fn.list.items l.list.items
