use Rattle.totem_packets.proofs.Common.{◌≡◌, drop, max, fold, greatest_delivered, reports_from}
use Rattle.totem_packets.proofs.commit_members.CommitMembers.greatest_delivered.Given as goal

abbrev pub invariant-loop-member : goal.invariant-loop-member
invariant-loop-member l = greatest_delivered l.old l.self ≡ fold (λ greatest r. max greatest r.delivered) l.greatest (reports_from l.old (drop l.member-index l.member-items))
