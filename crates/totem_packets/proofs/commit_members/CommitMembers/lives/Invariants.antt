use Rattle.totem_packets.proofs.Common.{◌≡◌, take, member_ranks}
use Rattle.totem_packets.proofs.commit_members.CommitMembers.lives.Given as goal

abbrev pub invariant-loop-member : goal.invariant-loop-member
invariant-loop-member l = l.list.items ≡ member_ranks (take l.member-index l.member-items)
