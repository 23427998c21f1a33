use Rattle.totem_recover.proofs.Common.{◌≡◌, ◌++◌, filter_map, held_above, sent_again}
use Rattle.totem_recover.proofs.sending.list_to_send.Given as goal

abbrev pub invariant-loop-number : goal.invariant-loop-number
invariant-loop-number l = l.list.items ++ filter_map (λ e. sent_again e.1) (held_above l.low l.number-iterator) ≡ filter_map (λ e. sent_again e.1) (held_above l.low l.held.entries)
