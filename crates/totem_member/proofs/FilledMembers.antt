-- The members of a commit token stay in order while they fill in their reports.
use Rattle.totem_member.proofs.Common.{◌≡◌, ℕ, ◌<◌, ◌==◌, ⊎_elim, true, false, List, [], ◌∷◌, length, map, refl, arith, cases_Bool, length-map, All-map, IsCommitMember, IsCommitMembers, IsReport, IsProcesses, filled_by, unfilled}
use Rattle.totem_packets.specs.declared.commit_member.Report.{Report}
use Rattle.totem_packets.specs.declared.commit_member.CommitMember.{CommitMember}
use Rattle.totem_packets.proofs.Chains.{Rises, pairs_rise, rise_from_pairs}

same_proc : (p : ℕ) (r : Report) (m : CommitMember) → (filled_by p r m).proc ≡ m.proc
same_proc p r m = ⊎_elim (λ (e : (m.proc == p) ≡ true). rw e refl) (λ (e : (m.proc == p) ≡ false). rw e refl) (cases_Bool (m.proc == p))

filled_one : (p : ℕ) (r : Report) (m : CommitMember) → IsReport r → IsCommitMember m → IsCommitMember (filled_by p r m)
filled_one p r m reports is = ⊎_elim
    (λ (e : (m.proc == p) ≡ true). rw e (record { proc = is.proc; report = reports }))
    (λ (e : (m.proc == p) ≡ false). rw e is)
    (cases_Bool (m.proc == p))

filled_rise : (p : ℕ) (r : Report) (last : ℕ) (members : List CommitMember) → Rises (λ m. m.proc) last members → Rises (λ m. m.proc) last (map (filled_by p r) members)
filled_rise p r last [] up = tt
filled_rise p r last (m ∷ ms) up = rw (same_proc p r m) (up.0, filled_rise p r m.proc ms up.1)

pub filled_are : (p : ℕ) (r : Report) (members : List CommitMember) → IsReport r → IsCommitMembers members → IsCommitMembers (map (filled_by p r) members)
filled_are p r members reports is = record {
  some = omega (arith, is.some, length-map members (filled_by p r));
  few = omega (arith, is.few, length-map members (filled_by p r));
  rising = pairs_rise (λ m. m.proc) 0 (map (filled_by p r) members) (filled_rise p r 0 members (rise_from_pairs (λ m. m.proc) 0 members (λ k d within. (is.each k d within).proc.positive) is.rising));
  each = All-map IsCommitMember (filled_by p r) members (λ k d within. filled_one p r _ reports (is.each k d within));
}

unfilled_rise : (last : ℕ) (ps : List ℕ) → Rises (λ n. n) last ps → Rises (λ m. m.proc) last (map unfilled ps)
unfilled_rise last [] up = tt
unfilled_rise last (p ∷ ps) up = (up.0, unfilled_rise p ps up.1)

pub unfilled_are : (ps : List ℕ) → 0 < length ps → IsProcesses ps → IsCommitMembers (map unfilled ps)
unfilled_are ps some is = record {
  some = omega (arith, some, length-map ps unfilled);
  few = omega (arith, is.few, length-map ps unfilled);
  rising = pairs_rise (λ m. m.proc) 0 (map unfilled ps) (unfilled_rise 0 ps (rise_from_pairs (λ n. n) 0 ps (λ k d within. (is.each k d within).positive) is.rising));
  each = All-map IsCommitMember unfilled ps (λ k d within. record { proc = is.each k d within; report = tt });
}
