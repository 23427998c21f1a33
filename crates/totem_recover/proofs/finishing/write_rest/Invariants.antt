use Rattle.totem_recover.proofs.Leaving.{RestGoesOn}
use Rattle.totem_recover.proofs.finishing.write_rest.Given as goal

abbrev pub invariant-loop-number : goal.invariant-loop-number
invariant-loop-number l = RestGoesOn l.conf l.obliged l.last l.held.entries l.fn.entries.items l.entries.items l.has_gap l.at l.number-iterator
