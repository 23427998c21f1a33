use Rattle.totem_weave.proofs.Common.{◌≡◌, ◌++◌, drop, acts_on}
use Rattle.totem_weave.proofs.recorded.put_steps.Given as goal

abbrev pub invariant-loop-step : goal.invariant-loop-step
invariant-loop-step l = l.acts.items ++ acts_on l.fn.ring (drop l.step-index l.steps) ≡ l.initial.acts.items ++ acts_on l.fn.ring l.steps
