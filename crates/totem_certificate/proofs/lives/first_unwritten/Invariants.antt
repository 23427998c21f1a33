use Rattle.totem_certificate.proofs.Common.{All, take, HasFirstLife}
use Rattle.totem_certificate.proofs.lives.first_unwritten.Given as goal

abbrev pub invariant-loop-at : goal.invariant-loop-at
invariant-loop-at l = All HasFirstLife (take l.at l.lines)
