-- The log of a process in a run.
use Rattle.totem_evs.proofs.Common.{◌≡◌, ℕ, zero, suc, ◌<◌, ◌⊎◌, inl, inr, List, [], ◌∷◌, slice_get, Some, Bool, true, false, refl, ap, arith, rules, ◌==◌, AllPairs, slice_get_within, get_or_from_slice_get, log_of}
use Rattle.totem_evs.specs.declared.log.Log.{Log}

-- a process has no entries, or its log is somewhere in the run
pub log_of_cases : (run : List Log) (p : ℕ) → (log_of run p ≡ []) ⊎ ((k : ℕ) × (log : Log) × (slice_get run k ≡ Some log) × (log.proc ≡ p) × (log_of run p ≡ log.entries))
log_of_cases [] p = inl refl
log_of_cases (log ∷ logs) p = go (log.proc == p) refl (log_of_cases logs p)
  where
    go : (b : Bool) → (log.proc == p) ≡ b → (log_of logs p ≡ []) ⊎ ((k : ℕ) × (l : Log) × (slice_get logs k ≡ Some l) × (l.proc ≡ p) × (log_of logs p ≡ l.entries))
        → (log_of (log ∷ logs) p ≡ []) ⊎ ((k : ℕ) × (l : Log) × (slice_get (log ∷ logs) k ≡ Some l) × (l.proc ≡ p) × (log_of (log ∷ logs) p ≡ l.entries))
    go true e rest = inr (0, log, refl, search rules, rw e refl)
    go false e (inl none) = inl (rw e none)
    go false e (inr (k, l, at, same, is)) = inr (suc k, l, at, same, rw e is)

-- the processes of a run are ascending
abbrev pub Rising : List Log → Type 0
Rising run = AllPairs (λ a b. a.proc < b.proc) run

pub Rising-tail : (log : Log) (logs : List Log) → Rising (log ∷ logs) → Rising logs
Rising-tail log logs rising = λ i j d lt below. rising (suc i) (suc j) d (omega arith) (omega arith)

pub in_order : (run : List Log) (j k : ℕ) (a b : Log) → Rising run → slice_get run j ≡ Some a → slice_get run k ≡ Some b → j < k → a.proc < b.proc
in_order run j k a b rising at_j at_k lt =
    let h = rising j k a lt (slice_get_within run k b at_k) in
    rw (get_or_from_slice_get run j a a at_j, get_or_from_slice_get run k b a at_k) at h

-- in such a run each log is that of its process
pub log_of_at : (run : List Log) (k : ℕ) (log : Log) → Rising run → slice_get run k ≡ Some log → log_of run log.proc ≡ log.entries
log_of_at [] k log rising at = absurd cc
log_of_at (x ∷ xs) zero log rising at =
    let same : x ≡ log = cc in
    let test : (x.proc == log.proc) ≡ true = rw same (search rules) in
    rw test (ap (λ (l : Log). l.entries) same)
log_of_at (x ∷ xs) (suc k) log rising at =
    let lt : x.proc < log.proc = in_order (x ∷ xs) 0 (suc k) x log rising refl at (omega arith) in
    let test : (x.proc == log.proc) ≡ false = search rules in
    rw test (log_of_at xs k log (Rising-tail x xs rising) at)

pub less_or_not : (a b : ℕ) → (a < b) ⊎ ((b < a) ⊎ (a ≡ b))
less_or_not a b = grind arith
