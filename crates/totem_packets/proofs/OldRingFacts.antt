-- Members of a commit token that come from one old ring.
use Rattle.totem_packets.proofs.Common.{ℕ, ◌≤◌, All, AllPairs, length, IsCommitMember, Bool, List, [], ◌∷◌, filter, Option, Some, None, arith, fold, min, length-map, All-filter, All-map, AllPairs-filter, IsProcess, IsBelowMember, IsCommitMembers, IsProcesses, union, processes_of, least_aru_of}
use Rattle.totem_packets.specs.declared.commit_member.Report.{Report}
use Rattle.totem_packets.specs.declared.commit_member.CommitMember.{CommitMember}
use Rattle.totem_packets.proofs.Chains.{Rises, pairs_rise, rise_from_pairs}
use Rattle.totem_packets.proofs.SetFacts.{Up, fewer_pass}

-- the least aru of the reports and of the one so far
abbrev pub least_since : Option ℕ → List Report → ℕ
least_since None rs = least_aru_of rs
least_since (Some n) rs = fold (λ least s. min least s.aru) n rs

-- the processes of ascending members are ascending
rising_of : (last : ℕ) (members : List CommitMember) → Rises (λ m. m.proc) last members → Up last (processes_of members)
rising_of last [] up = tt
rising_of last (m ∷ ms) up = (up.0, rising_of m.proc ms up.1)

are : (members : List CommitMember) → length members ≤ 32 → AllPairs IsBelowMember members → All IsCommitMember members
    → IsProcesses (processes_of members)
are members few rising each = record {
  few = omega (arith, length-map members (λ (m : CommitMember). m.proc));
  rising =
      let rise = rise_from_pairs (λ m. m.proc) 0 members (λ k d within. (each k d within).proc.positive) rising in
      pairs_rise (λ n. n) 0 (processes_of members) (rising_of 0 members rise);
  each = All-map IsProcess (λ m. m.proc) members (λ k d within. (each k d within).proc);
}

-- the processes of some members are a set
pub members_are : (test : CommitMember → Bool) (members : List CommitMember) → IsCommitMembers members → IsProcesses (processes_of (filter test members))
members_are test members is =
    are (filter test members) (omega (arith, is.few, fewer_pass test members)) (AllPairs-filter IsBelowMember test members is.rising)
    (All-filter test IsCommitMember members is.each)

pub all_are : (members : List CommitMember) → IsCommitMembers members → IsProcesses (processes_of members)
all_are members is = are members is.few is.rising is.each

-- ---- obligations

-- the processes with all obligation sets of the reports
abbrev pub obliged : List ℕ → List Report → List ℕ
obliged ps rs = fold (λ all r. union all r.obligation) ps rs
