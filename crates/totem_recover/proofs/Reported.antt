-- The members that a commit token reports are the members of configurations.
use Rattle.totem_recover.proofs.Common.{ℕ, ◌<◌, List, [], ◌∷◌, length, sym, subst, IsTrue, arith, length-map, RingName, IsCommitMembers, member_ranks, transitional_ranks, processes_of, reports_ring, transitional_set, has, ids_of, IsRingMembers}
use Rattle.totem_packets.specs.declared.commit_member.CommitMember.{CommitMember}
use Rattle.totem_packets.proofs.OldRingFacts.{members_are as set_is, all_are}
use Rattle.totem_packets.proofs.RankFacts.{ids_of_members, ids_of_transitional}

some_has : (ps : List ℕ) (p : ℕ) → IsTrue (has ps p) → 0 < length ps
some_has [] p had = absurd cc
some_has (q ∷ qs) p had = omega arith

pub members_are : (members : List CommitMember) → IsCommitMembers members → IsRingMembers (ids_of (member_ranks members))
members_are members is =
    let are : IsRingMembers (processes_of members) = record { some = omega (arith, is.some, length-map members (λ (m : CommitMember). m.proc)); processes = all_are members is } in
    subst IsRingMembers (sym (ids_of_members members is)) are

pub transitional_are : (old : RingName) (members : List CommitMember) (me : ℕ) → IsCommitMembers members → IsTrue (has (transitional_set old members) me)
    → IsRingMembers (ids_of (transitional_ranks old members))
transitional_are old members me is had =
    let are : IsRingMembers (transitional_set old members) = record {
      some = some_has (transitional_set old members) me had;
      processes = set_is (λ m. reports_ring old m.report) members is;
    } in
    subst IsRingMembers (sym (ids_of_transitional old members is)) are
