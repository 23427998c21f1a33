use Rattle.totem_ring.proofs.Common.{◌≡◌, filter, not, take, holds}
use Rattle.totem_ring.proofs.requests.still_asked.Given as goal

abbrev pub invariant-loop-number : goal.invariant-loop-number
invariant-loop-number l = l.rtr.items ≡ filter (λ n. not (holds l.held n)) (take l.number-index l.numbers)
