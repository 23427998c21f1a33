use Rattle.totem_core.proofs.Common.{◌≡◌, ◌++◌, take, filter, nat_le, deliveries}
use Rattle.totem_core.proofs.leaving.write_up_to.Given as goal

abbrev pub invariant-loop-message : goal.invariant-loop-message
invariant-loop-message l = l.entries.items ≡ l.initial.entries.items ++ deliveries l.conf (filter (λ m. nat_le m.number l.last) (take l.message-index l.messages))
