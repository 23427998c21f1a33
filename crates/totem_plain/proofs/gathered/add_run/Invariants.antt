use Rattle.totem_plain.proofs.Common.{Log, HasOne, Adds}
use Rattle.totem_search.proofs.Adding.{AtSome}
use Rattle.totem_plain.proofs.gathered.add_run.Given as goal

abbrev pub invariant-loop-log : goal.invariant-loop-log
invariant-loop-log g l = Adds (AtSome (λ (r : Log) x. HasOne (λ e. g.T.Gathered.gives l.run.logs l.proc e x) r.entries) l.log-items l.log-index) l.fn.list.items l.list.items
