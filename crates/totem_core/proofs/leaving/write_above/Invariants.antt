use Rattle.totem_core.proofs.Common.{◌≡◌, ◌++◌, take, filter, nat_lt, deliveries}
use Rattle.totem_core.proofs.leaving.write_above.Given as goal

abbrev pub invariant-loop-message : goal.invariant-loop-message
invariant-loop-message l = l.entries.items ≡ l.initial.entries.items ++ deliveries l.conf (filter (λ m. nat_lt l.last m.number) (take l.message-index l.messages))
