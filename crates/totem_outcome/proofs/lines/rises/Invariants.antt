use Rattle.totem_outcome.specs.Rising.{RisesBefore}
use Rattle.totem_outcome.proofs.lines.rises.Given as goal

abbrev pub invariant-loop-at : goal.invariant-loop-at
invariant-loop-at l = RisesBefore l.numbers l.at
