use Rattle.std.proofs.Common.{◌≡◌, take}
use Rattle.totem_weave.proofs.woven.steps_copied.Given as goal

abbrev pub invariant-loop-step : goal.invariant-loop-step
invariant-loop-step l = l.copy.items ≡ take l.step-index l.steps
