use Rattle.std.proofs.Common.{◌≡◌, take, map}
use Rattle.totem_explain.proofs.no.explain_each.Given as goal

abbrev pub invariant-loop-fault : goal.invariant-loop-fault
invariant-loop-fault l = map (λ one. one.fault) l.list.items ≡ take l.fault-index l.faults
