use Rattle.totem_packets.proofs.Common.{◌≡◌, ◌≤◌, drop, length, obligation_union, reports_from}
use Rattle.totem_packets.proofs.Longer.{Rises}
use Rattle.totem_packets.proofs.OldRingFacts.{obliged}
use Rattle.totem_packets.proofs.commit_members.CommitMembers.obligation_union.Given as goal

abbrev pub invariant-loop-member : goal.invariant-loop-member
invariant-loop-member l = record {
  same : obligation_union l.old l.self ≡ obliged l.all (reports_from l.old (drop l.member-index l.member-items));
  rises : Rises l.all;
  few : length l.all ≤ 32;
}
