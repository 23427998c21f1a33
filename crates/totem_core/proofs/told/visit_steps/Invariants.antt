use Rattle.totem_core.proofs.Common.{◌≡◌, take, submits}
use Rattle.totem_core.proofs.told.visit_steps.Given as goal

abbrev pub invariant-loop-body : goal.invariant-loop-body
invariant-loop-body l = l.steps.items ≡ submits l.ring (take l.body-index l.bodies)
