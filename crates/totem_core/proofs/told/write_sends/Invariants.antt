use Rattle.totem_core.proofs.Common.{◌≡◌, ◌+◌, ◌++◌, take, Regular, numbered, sends}
use Rattle.totem_core.proofs.told.write_sends.Given as goal

abbrev pub invariant-loop-body : goal.invariant-loop-body
invariant-loop-body l = record {
  number : l.number ≡ l.seq + l.body-index;
  so_far : l.entries.items ≡ l.initial.entries.items ++ sends (Regular l.ring.ring) (numbered l.ring l.seq (take l.body-index l.bodies));
}
