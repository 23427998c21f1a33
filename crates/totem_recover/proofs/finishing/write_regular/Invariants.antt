use Rattle.totem_recover.proofs.Leaving.{RegularGoesOn}
use Rattle.totem_recover.proofs.finishing.write_regular.Given as goal

abbrev pub invariant-loop-number : goal.invariant-loop-number
invariant-loop-number l = RegularGoesOn l.conf l.high l.handed l.held.entries l.fn.entries.items l.entries.items l.last l.number-iterator
