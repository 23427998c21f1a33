use Rattle.totem_weave.proofs.Common.{◌≡◌, ◌+◌, length, take, calls_acts}
use Rattle.totem_weave.proofs.recorded.call_of.Given as goal

abbrev pub invariant-loop-at : goal.invariant-loop-at
invariant-loop-at l = length (calls_acts l.fn.ring (take l.at l.calls)) + l.left ≡ l.fn.step
