use Rattle.totem_packets.proofs.Common.{◌≡◌, drop, has, transitional_set}
use Rattle.totem_packets.proofs.commit_members.CommitMembers.is_from.Given as goal

abbrev pub invariant-loop-member : goal.invariant-loop-member
invariant-loop-member l = has (transitional_set l.old l.self) l.proc ≡ has (transitional_set l.old (drop l.member-index l.member-items)) l.proc
