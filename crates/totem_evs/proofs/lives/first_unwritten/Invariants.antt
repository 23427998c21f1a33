use Rattle.totem_evs.proofs.Common.{All, take, HasFirstLives}
use Rattle.totem_evs.proofs.lives.first_unwritten.Given as goal

abbrev pub invariant-loop-at : goal.invariant-loop-at
invariant-loop-at l = All HasFirstLives (take l.at l.logs)
