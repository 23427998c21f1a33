use Rattle.std.proofs.Common.{◌≡◌, None, replicate}
use Rattle.totem_audit.proofs.collecting.nothing_known.Given as goal

abbrev pub invariant-loop : goal.invariant-loop
invariant-loop l = l.known.items ≡ replicate l.counter None
