use Rattle.totem_search.specs.Entries.{HasOne}
use Rattle.totem_search.proofs.Loops.{NoneBelow, HasLogAt}
use Rattle.totem_search.proofs.entries.some_event.Given as goal

abbrev pub invariant-loop-log : goal.invariant-loop-log
invariant-loop-log g l = NoneBelow (HasLogAt (λ p es. HasOne (g.T.EntryTest.holds l.test) es) l.log-items) l.log-index
