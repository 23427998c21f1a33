use Rattle.totem_search.specs.Adding.{Adds}
use Rattle.totem_search.proofs.Adding.{AtSome}
use Rattle.totem_plain.proofs.gathered.add_log.Given as goal

abbrev pub invariant-loop-entry : goal.invariant-loop-entry
invariant-loop-entry g l = Adds (AtSome (λ e x. g.T.Gathered.gives l.run.logs l.proc e x) l.log l.entry-index) l.fn.list.items l.list.items
