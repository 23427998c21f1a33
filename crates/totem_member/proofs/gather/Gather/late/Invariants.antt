use Rattle.totem_member.proofs.Common.{◌≡◌, ◌≤◌, take, not, filter, length, agrees}
use Rattle.totem_member.proofs.gather.Gather.late.Given as goal

abbrev pub invariant-loop-proc : goal.invariant-loop-proc
invariant-loop-proc l = record {
  so_far : l.late ≡ filter (λ p. not (agrees l.self p)) (take l.proc-index l.proc-items);
  few : length l.late ≤ l.proc-index;
}
