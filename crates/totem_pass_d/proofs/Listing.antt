-- From what is shown of a configuration to the findings of its job, and from these to the faults of the pass.
use Rattle.totem_pass_d.proofs.Common.{◌≡◌, ◌<◌, ◌≤◌, ◌+◌, ℕ, inl, inr, List, [], ◌∷◌, ◌++◌, length, take, Result, Ok, Err, IfOk, append-nil, arith, take_more, take_all, slice_get_cases, RingId, Log, ListsEach, ListsConfigurations, AreRings, specs_d, AreFindings, AreMet, AreNone, GrowsBy, AreFound, all_found}
use Rattle.totem_evs.specs.declared.fault.Fault.{Fault}
use Rattle.totem_search.proofs.Listing.{rings_then}
use Rattle.totem_judge_traffic.specs.declared.agreed.Shown.{Shown}
use Rattle.totem_judge_traffic.specs.Clean.{IsAllShown, IsNoneShown}
use Rattle.totem_pass_d.specs.declared.findings.Findings.{Findings}
use Rattle.totem_pass_d.specs.declared.pass.Found.{Found}
use Rattle.totem_pass_d.specs.Jobs.{AreFindingsAt}

-- where nothing is shown, nothing is claimed
pub nothing_met : (run : List Log) (c : RingId) (shown : Shown) → IsNoneShown shown → AreMet run c shown
nothing_met run c shown none = grind arith

-- where all is met, nothing is found
pub none_found : (run : List Log) (c : RingId) (shown : Shown) (findings : Findings) → AreMet run c shown → IsAllShown shown → AreNone findings → AreFindings run c findings
none_found run c shown findings met all none = grind arith

pub found_more : (run : List Log) (cs : List RingId) (c : RingId) (old new : Found) (findings : Findings) → AreFindings run c findings → GrowsBy old findings new → AreFound run cs old → AreFound run (cs ++ c ∷ []) new
found_more run cs c old new findings h grows before = grind (arith, rings_then)

each_found : (run : List Log) (rings : List RingId) (found : Found) → AreFound run rings found → ListsEach run rings specs_d (all_found found)
each_found run rings found h = grind (arith, append-nil)

pub all_listed : (run : List Log) (rings : List RingId) (found : Found) (faults : List Fault) → AreRings run rings → AreFound run rings found → faults ≡ all_found found → ListsConfigurations run faults
all_listed run rings found faults are h is = record { rings = rings; are = are; lists = rw is (each_found run rings found h) }

pub found_next : (run : List Log) (rings : List RingId) (i : ℕ) (old new : Found) (findings : Findings) → i < length rings → AreFindingsAt run rings i findings → GrowsBy old findings new → AreFound run (take i rings) old
    → AreFound run (take (i + 1) rings) new
found_next run rings i old new findings lt h grows before = elim (slice_get_cases rings i).1 [
  | inl (c, within, is, read) ↦ rw (take_more rings i c lt, read) (found_more run (take i rings) c old new findings (h.at c is) grows before)
  | inr (past, none) ↦ absurd (omega arith)
]

pub all_found_of : (run : List Log) (rings : List RingId) (i : ℕ) (found : Found) {E V : Type 0} → (items : V → List Fault) (r : Result V E) → AreRings run rings → length rings ≤ i → AreFound run (take i rings) found
    → IfOk r (λ v. items v ≡ all_found found) → IfOk r (λ v. ListsConfigurations run (items v))
all_found_of run rings i found items (Err e) are end h is = tt
all_found_of run rings i found items (Ok faults) are end h is = all_listed run rings found (items faults) are (rw (take_all i rings end) at h) is
