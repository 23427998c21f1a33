use Rattle.totem_weave.proofs.Common.{◌≡◌, drop, calls_acts}
use Rattle.totem_weave.proofs.recorded.tell_none.Given as goal

abbrev pub invariant-loop-call : goal.invariant-loop-call
invariant-loop-call l = calls_acts l.fn.ring (drop l.call-index l.calls) ≡ calls_acts l.fn.ring l.calls
