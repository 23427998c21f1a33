use Rattle.totem_ring.proofs.Places.{IsAt}
use Rattle.totem_ring.proofs.requests.place_in.Given as goal

abbrev pub invariant-loop-place : goal.invariant-loop-place
invariant-loop-place l = IsAt l.numbers l.number l.place
