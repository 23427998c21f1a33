use Rattle.totem_certificate.proofs.Common.{All, take, IsNumber}
use Rattle.totem_certificate.proofs.numbers.first_zero.Given as goal

abbrev pub invariant-loop-at : goal.invariant-loop-at
invariant-loop-at l = All IsNumber (take l.at l.list)
