use Rattle.totem_packets.proofs.Common.{◌≡◌, ◌≤◌, length, take, transitional_set}
use Rattle.totem_packets.proofs.commit_members.CommitMembers.transitional_set.Given as goal

abbrev pub invariant-loop-member : goal.invariant-loop-member
invariant-loop-member l = record {
  so_far : l.list ≡ transitional_set l.old (take l.member-index l.member-items);
  few : length l.list ≤ l.member-index;
}
