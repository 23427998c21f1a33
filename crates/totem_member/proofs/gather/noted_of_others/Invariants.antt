use Rattle.totem_member.proofs.Common.{◌≡◌, take, not, filter, ◌==◌}
use Rattle.totem_member.proofs.gather.noted_of_others.Given as goal

abbrev pub invariant-loop-note : goal.invariant-loop-note
invariant-loop-note l = l.list.items ≡ filter (λ n. not (n.proc == l.proc)) (take l.note-index l.noted)
