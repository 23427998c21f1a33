use Rattle.std.proofs.Common.{◌≡◌, ◌++◌, take}
use Rattle.totem_ring.proofs.state.put_all.Given as goal

abbrev pub invariant-loop-body : goal.invariant-loop-body
invariant-loop-body l = l.waiting.items ≡ l.initial.waiting.items ++ take l.body-index l.bodies
