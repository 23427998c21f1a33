use Rattle.totem_plain.proofs.Common.{Log, SomeLog, Adds}
use Rattle.totem_search.proofs.Adding.{AtSome}
use Rattle.totem_plain.proofs.gathered.all_given.Given as goal

abbrev pub invariant-loop-log : goal.invariant-loop-log
invariant-loop-log g l = Adds (AtSome (λ (r : Log) x. SomeLog (λ e. g.T.Gathered.gives l.run.logs r.proc e x) l.run.logs) l.log-items l.log-index) l.initial.list.items l.list.items
