-- What the reports of a commit token say about an old ring (docs/PROTOCOL.md, "Recovery").
use Rattle.std.specs.Prelude.{ℕ, ◌==◌, ◌&&◌, List, [], ◌∷◌, map, filter, fold, min, max, Bool, false, Option, Some, None, is_some}
use Rattle.std.specs.List.{filter_map, list_all}
use Rattle.totem_names.specs.Names.{RingName}
use Rattle.totem_packets.specs.declared.commit_member.Report.{Report}
use Rattle.totem_packets.specs.declared.commit_member.CommitMember.{CommitMember}
use Rattle.totem_packets.specs.Sets.{union}

abbrev pub same_ring : RingName → RingName → Bool
same_ring a b = (a.seq == b.seq) && (a.rep == b.rep)

-- the members' processes
abbrev pub processes_of : List CommitMember → List ℕ
processes_of members = map (λ m. m.proc) members

-- each member has reported
abbrev pub is_filled : List CommitMember → Bool
is_filled members = list_all (λ m. is_some m.report) members

-- a member that reports this as the ring that it comes from
abbrev pub reports_ring : RingName → Option Report → Bool
reports_ring old None = false
reports_ring old (Some r) = same_ring r.ring old

-- the members that come from this old ring
abbrev pub those_from : RingName → List CommitMember → List CommitMember
those_from old members = filter (λ m. reports_ring old m.report) members

-- the transitional set: the processes that come from this old ring
abbrev pub transitional_set : RingName → List CommitMember → List ℕ
transitional_set old members = processes_of (those_from old members)

-- the reports of these members
abbrev pub reports_from : RingName → List CommitMember → List Report
reports_from old members = filter_map (λ m. m.report) (those_from old members)

-- the least aru of these reports
abbrev pub least_aru_of : List Report → ℕ
least_aru_of [] = 0
least_aru_of (r ∷ rs) = fold (λ least s. min least s.aru) r.aru rs

-- the least aru that the transitional set reported
abbrev pub least_aru : RingName → List CommitMember → ℕ
least_aru old members = least_aru_of (reports_from old members)

-- the greatest number that the transitional set reported as delivered to the node
abbrev pub greatest_delivered : RingName → List CommitMember → ℕ
greatest_delivered old members = fold (λ greatest r. max greatest r.delivered) 0 (reports_from old members)

-- the transitional set and all obligation sets that it reported
abbrev pub obligation_union : RingName → List CommitMember → List ℕ
obligation_union old members = fold (λ all r. union all r.obligation) (transitional_set old members) (reports_from old members)
