use Rattle.totem_pass_d.proofs.Common.{Along, IsLast}
use Rattle.totem_pass_d.proofs.gap_6_3.lasts_of.Given as goal

abbrev pub invariant-loop-follower : goal.invariant-loop-follower
invariant-loop-follower l = Along (IsLast l.stays.run.now.logs l.stays.ring l.leader.proc) l.stays.list.items l.lasts.items l.follower-index
