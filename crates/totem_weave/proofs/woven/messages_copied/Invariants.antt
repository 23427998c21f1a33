use Rattle.std.proofs.Common.{◌≡◌, take}
use Rattle.totem_weave.proofs.woven.messages_copied.Given as goal

abbrev pub invariant-loop-message : goal.invariant-loop-message
invariant-loop-message l = l.copy.items ≡ take l.message-index l.messages
