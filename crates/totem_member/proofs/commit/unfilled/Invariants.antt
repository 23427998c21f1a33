use Rattle.totem_member.proofs.Common.{◌≡◌, take, map, unfilled}
use Rattle.totem_member.proofs.commit.unfilled.Given as goal

abbrev pub invariant-loop-proc : goal.invariant-loop-proc
invariant-loop-proc l = l.unfilled.items ≡ map unfilled (take l.proc-index l.list)
