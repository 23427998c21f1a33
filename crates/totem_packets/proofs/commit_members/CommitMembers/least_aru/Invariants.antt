use Rattle.totem_packets.proofs.Common.{◌≡◌, drop, least_aru, reports_from}
use Rattle.totem_packets.proofs.OldRingFacts.{least_since}
use Rattle.totem_packets.proofs.commit_members.CommitMembers.least_aru.Given as goal

abbrev pub invariant-loop-member : goal.invariant-loop-member
invariant-loop-member l = least_aru l.old l.self ≡ least_since l.least (reports_from l.old (drop l.member-index l.member-items))
