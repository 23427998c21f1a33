use Rattle.totem_weave.proofs.Common.{◌≡◌, ◌++◌, drop, calls_acts}
use Rattle.totem_weave.proofs.recorded.acts_in.Given as goal

abbrev pub invariant-loop-call : goal.invariant-loop-call
invariant-loop-call l = l.acts.items ++ calls_acts l.fn.ring (drop l.call-index l.calls) ≡ calls_acts l.fn.ring l.calls
