-- What the result of a job says, and the jobs of its run.
use Rattle.totem_pass_d.proofs.Common.{◌≡◌, ◌<◌, ◌≤◌, ◌+◌, ℕ, inl, inr, List, length, slice_get, Some, arith, slice_get_within, slice_get_cases, RingId, Log, AreRings}
use Rattle.totem_pass_d.specs.declared.findings.Findings.{Findings}
use Rattle.totem_pass_d.specs.Jobs.{AreFindingsAt}
use Rattle.totem_audit.specs.Jobs.{IsRight}
use Rattle.totem_audit.specs.Results.{IsJobOf, HasJob, IsFoundBy}
use Rattle.totem_laws.proofs.OneList.{rings_one}

-- a job is in every list of the rings
stands : (run : List Log) (rings : List RingId) (job : ℕ) (c : RingId) → AreRings run rings → (is : IsJobOf run job c) → slice_get rings is.index ≡ Some c
stands run rings job c are is = rw (rings_one run rings is.rings are is.are) is.at

-- a number beyond the rings belongs to no job
pub none_of : (run : List Log) (rings : List RingId) (job count : ℕ) → AreRings run rings → count ≡ length rings → ((index : ℕ) → job ≡ index + 1 → count ≤ index) → HasJob run job → ⊥
none_of run rings job count are is beyond (c, of) =
    let within : of.index < length rings = slice_get_within rings of.index c (stands run rings job c are of) in
    let past : count ≤ of.index = beyond of.index of.number in
    omega (arith, within, past, is)

-- what was found at an index is what the job there finds
pub found_by : (run : List Log) (rings : List RingId) (job index : ℕ) (findings : Findings) → AreRings run rings → job ≡ index + 1 → index < length rings → AreFindingsAt run rings index findings → IsFoundBy run job findings
found_by run rings job index findings are number lt h = elim (slice_get_cases rings index).1 [
  | inl (c, within, at, read) ↦ record {
    ring = c;
    is = record { rings = rings; are = are; index = index; number = number; at = at };
    found = h.at c at;
  }
  | inr (past, none) ↦ absurd (omega (arith, lt, past))
]

-- jobs are counted from 1
pub counted : (run : List Log) (job : ℕ) (findings : Findings) → IsFoundBy run job findings → 0 < job
counted run job findings h = omega (arith, h.is.number)

-- a result of the run is correct for the index of its job
pub right_of : (run logs : List Log) (rings : List RingId) (job index : ℕ) (findings : Findings) → AreRings run rings → logs ≡ run → index + 1 ≡ job → IsFoundBy logs job findings
    → IsRight run rings (record { index = index; findings = findings })
right_of run logs rings job index findings are same number h =
    let of : IsFoundBy run job findings = rw same at h in
    let at : slice_get rings of.is.index ≡ Some of.ring = stands run rings job of.ring are of.is in
    let here : of.is.index ≡ index = omega (arith, of.is.number, number) in
    let read : slice_get rings index ≡ Some of.ring = rw here at at in
    record {
      within = slice_get_within rings index of.ring read;
      right = record { at = λ c is. let c_is : of.ring ≡ c = cc in rw c_is at of.found };
    }
