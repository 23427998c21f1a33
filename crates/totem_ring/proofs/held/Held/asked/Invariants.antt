use Rattle.totem_ring.proofs.Common.{◌≡◌, take, filter_map, message_at}
use Rattle.totem_ring.proofs.held.Held.asked.Given as goal

abbrev pub invariant-loop-number : goal.invariant-loop-number
invariant-loop-number l = l.found.items ≡ filter_map (message_at l.self) (take l.number-index l.numbers)
