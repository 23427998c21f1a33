use Rattle.std.proofs.Common.{◌≡◌, take}
use Rattle.totem_core.proofs.outcome.StepOut.try_clone.Given as goal

abbrev pub invariant-loop-sending : goal.invariant-loop-sending
invariant-loop-sending l = l.packets.items ≡ take l.sending-index l.sending-items

abbrev pub invariant-loop-step : goal.invariant-loop-step
invariant-loop-step l = l.ring_steps.items ≡ take l.step-index l.step-items
