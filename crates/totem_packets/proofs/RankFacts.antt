-- The identifiers of members as processes of a run.
use Rattle.totem_packets.proofs.Common.{◌≡◌, ◌∷◌, [], ◌<◌, List, Option, Some, None, map, refl, arith, All, IfSome, All-filter, All-head, All-tail, RingName, IsCommitMember, IsCommitMembers, IsReport, reported_life, member_rank, member_ranks, transitional_ranks, processes_of, reports_ring, those_from, transitional_set}
use Rattle.totem_names.specs.Ranks.{id_of}
use Rattle.totem_names.proofs.RankParts.{id_of_rank}
use Rattle.totem_packets.specs.declared.commit_member.Report.{Report}
use Rattle.totem_packets.specs.declared.commit_member.CommitMember.{CommitMember}

pub life_small : (report : Option Report) → IfSome report IsReport → reported_life report < 65536
life_small None is = omega arith
life_small (Some r) is = omega (arith, is.life.small)

pub id_of_member : (m : CommitMember) → IsCommitMember m → id_of (member_rank m) ≡ m.proc
id_of_member m is = id_of_rank m.proc (reported_life m.report) (life_small m.report is.report)

ids_of_each : (members : List CommitMember) → All IsCommitMember members → map id_of (member_ranks members) ≡ processes_of members
ids_of_each [] each = refl
ids_of_each (m ∷ ms) each = rw (id_of_member m (All-head IsCommitMember m ms each), ids_of_each ms (All-tail IsCommitMember m ms each)) refl

-- the identifiers of the members in their lives are the members' processes
pub ids_of_members : (members : List CommitMember) → IsCommitMembers members → map id_of (member_ranks members) ≡ processes_of members
ids_of_members members is = ids_of_each members is.each

-- the identifiers of the transitional set in its lives are the transitional set
pub ids_of_transitional : (old : RingName) (members : List CommitMember) → IsCommitMembers members → map id_of (transitional_ranks old members) ≡ transitional_set old members
ids_of_transitional old members is = ids_of_each (those_from old members) (All-filter (λ (m : CommitMember). reports_ring old m.report) IsCommitMember members is.each)
