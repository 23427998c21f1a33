use Rattle.totem_packets.proofs.Common.{◌≡◌, drop, same_processes, processes_of}
use Rattle.totem_packets.proofs.commit_members.CommitMembers.are.Given as goal

abbrev pub invariant-loop-at : goal.invariant-loop-at
invariant-loop-at l = same_processes (processes_of l.members) l.list ≡ same_processes (processes_of (drop l.at l.members)) (drop l.at l.list)
