use Rattle.totem_core.proofs.Common.{◌≡◌, ◌++◌, take, deliveries}
use Rattle.totem_core.proofs.told.write_deliveries.Given as goal

abbrev pub invariant-loop-message : goal.invariant-loop-message
invariant-loop-message l = l.entries.items ≡ l.initial.entries.items ++ deliveries l.conf (take l.message-index l.messages)
