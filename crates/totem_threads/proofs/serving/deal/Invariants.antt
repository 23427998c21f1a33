use Rattle.totem_threads.specs.FirstLives.{IsFirstSeat}
use Rattle.totem_threads.proofs.serving.deal.Given as goal

abbrev pub invariant-loop : goal.invariant-loop
invariant-loop g l = IsFirstSeat l.seat
