use Rattle.std.proofs.Common.{◌≡◌, take}
use Rattle.totem_audit.proofs.verdict.clone_faults.Given as goal

abbrev pub invariant-loop-fault : goal.invariant-loop-fault
invariant-loop-fault l = l.list.items ≡ take l.fault-index l.faults
