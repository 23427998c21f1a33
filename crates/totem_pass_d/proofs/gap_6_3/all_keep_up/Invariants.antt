use Rattle.totem_pass_d.proofs.GapFaults.{KeepUpTo}
use Rattle.totem_pass_d.proofs.gap_6_3.all_keep_up.Given as goal

abbrev pub invariant-loop-k : goal.invariant-loop-k
invariant-loop-k l = KeepUpTo l.stays.run.now.logs l.stays.ring l.stays.list.items l.leader.proc l.message l.at l.k
