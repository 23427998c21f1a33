use Rattle.totem_weave.proofs.Common.{◌≡◌, ◌+◌, ◌≤◌, length, drop, acts_on}
use Rattle.totem_weave.proofs.recorded.count_on.Given as goal

abbrev pub invariant-loop-step : goal.invariant-loop-step
invariant-loop-step l = record {
  counted : l.count + length (acts_on l.fn.ring (drop l.step-index l.steps)) ≡ length (acts_on l.fn.ring l.steps);
  few : l.count ≤ l.step-index;
}
