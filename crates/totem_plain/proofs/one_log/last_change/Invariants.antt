use Rattle.totem_plain.proofs.Common.{IsChange, NoneBelow}
use Rattle.totem_search.specs.Following.{NoNextChange}
use Rattle.totem_plain.proofs.one_log.last_change.Given as goal

abbrev pub invariant-loop-at : goal.invariant-loop-at
invariant-loop-at l = NoneBelow (λ k. IsChange l.log k × NoNextChange l.log k) l.at
