use Rattle.totem_packets.proofs.Common.{◌≡◌, ◌≤◌, length, take, processes_of}
use Rattle.totem_packets.proofs.commit_members.CommitMembers.processes.Given as goal

abbrev pub invariant-loop-member : goal.invariant-loop-member
invariant-loop-member l = record {
  so_far : l.list ≡ processes_of (take l.member-index l.member-items);
  few : length l.list ≤ l.member-index;
}
