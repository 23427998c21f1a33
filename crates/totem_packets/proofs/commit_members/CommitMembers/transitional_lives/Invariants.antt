use Rattle.totem_packets.proofs.Common.{◌≡◌, take, transitional_ranks}
use Rattle.totem_packets.proofs.commit_members.CommitMembers.transitional_lives.Given as goal

abbrev pub invariant-loop-member : goal.invariant-loop-member
invariant-loop-member l = l.list.items ≡ transitional_ranks l.old (take l.member-index l.member-items)
