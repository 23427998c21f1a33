use Rattle.std.proofs.Common.{◌≡◌}
use Rattle.totem_cert.proofs.order.certificate.Given as goal

abbrev pub invariant-loop-line : goal.invariant-loop-line
invariant-loop-line l = l.list.items ≡ l.yielded
