use Rattle.totem_evs.specs.Events.{ChangesTo}
use Rattle.totem_search.proofs.Loops.{NoneBelow}
use Rattle.totem_search.proofs.following.first_change.Given as goal

abbrev pub invariant-loop-at : goal.invariant-loop-at
invariant-loop-at l = NoneBelow (λ k. ChangesTo l.log k l.conf) l.at
