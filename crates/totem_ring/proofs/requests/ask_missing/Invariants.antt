use Rattle.totem_ring.proofs.Missing.{IsAsking}
use Rattle.totem_ring.proofs.requests.ask_missing.Given as goal

abbrev pub invariant-loop-number : goal.invariant-loop-number
invariant-loop-number l = IsAsking l.rtr.items l.initial.rtr.items l.held l.number l.seq
