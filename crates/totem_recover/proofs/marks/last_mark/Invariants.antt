use Rattle.totem_recover.proofs.Common.{◌≡◌, map, drop, id_of, mark_of, greatest_of_all, at_least}
use Rattle.totem_recover.proofs.marks.last_mark.Given as goal

abbrev pub invariant-loop-proc : goal.invariant-loop-proc
invariant-loop-proc l = greatest_of_all (map (λ p. mark_of l.held.entries (id_of p)) l.members) ≡ at_least l.last (greatest_of_all (map (λ p. mark_of l.held.entries (id_of p)) (drop l.proc-index l.members)))
