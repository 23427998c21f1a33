use Rattle.std.proofs.Common.{◌≡◌, take}
use Rattle.totem_ring.proofs.state.RingState.try_clone.Given as goal

abbrev pub invariant-loop-body : goal.invariant-loop-body
invariant-loop-body l = l.waiting.items ≡ take l.body-index l.self-inside.waiting.items
