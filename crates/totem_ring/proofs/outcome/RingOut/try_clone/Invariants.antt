use Rattle.std.proofs.Common.{◌≡◌, take}
use Rattle.totem_ring.proofs.outcome.RingOut.try_clone.Given as goal

abbrev pub invariant-loop-sending : goal.invariant-loop-sending
invariant-loop-sending l = l.packets.items ≡ take l.sending-index l.sending-items

abbrev pub invariant-loop-message : goal.invariant-loop-message
invariant-loop-message l = l.handed.items ≡ take l.message-index l.message-items
