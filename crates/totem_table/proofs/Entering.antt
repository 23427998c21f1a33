-- Entering a run in a register, log by log and entry by entry.
use Rattle.totem_table.proofs.Common.{◌≡◌, ℕ, ◌+◌, ◌<◌, ◌≤◌, ◌⊎◌, inl, inr, List, [], length, slice_get, Some, arith, slice_get_within, Entry, Log, log_of, Keeps, KnowsLog, KnowsRun, log_of_cases}
use Rattle.totem_table.proofs.Checking.{HoldsTo, holds_more}

pub keeps_on : (P Q R : ℕ → List Entry → ℕ → Type 0) → Keeps P Q → Keeps Q R → Keeps P R
keeps_on P Q R first second = record { each = λ p log i h. second.each p log i (first.each p log i h) }

-- the logs before the one at k are known
abbrev pub KnowsBefore : (ℕ → List Entry → ℕ → Type 0) → List Log → ℕ → Type 0
KnowsBefore P run k = HoldsTo (λ (j : ℕ) (log : Log). KnowsLog P log.proc log.entries (length log.entries)) run k

pub before_more : (P Q : ℕ → List Entry → ℕ → Type 0) (run : List Log) (k : ℕ) (log : Log) → slice_get run k ≡ Some log → Keeps P Q → KnowsLog Q log.proc log.entries (length log.entries)
    → KnowsBefore P run k → KnowsBefore Q run (k + 1)
before_more P Q run k log at kept here before = holds_more _ run k log at here (record {
  each = λ j l lt at_j. (let old = before.each j l lt at_j in record { each = λ i within. kept.each l.proc l.entries i (old.each i within) });
})

pub before_end : (P : ℕ → List Entry → ℕ → Type 0) (run : List Log) (k : ℕ) → length run ≤ k → KnowsBefore P run k → KnowsRun P run
before_end P run k end before = record { each = λ p i within. go p i (log_of_cases run p) within }
  where
    go : (p i : ℕ) → (log_of run p ≡ []) ⊎ ((j : ℕ) × (log : Log) × (slice_get run j ≡ Some log) × (log.proc ≡ p) × (log_of run p ≡ log.entries)) → i < length (log_of run p) → P p (log_of run p) i
    go p i (inl none) within = let w : i < length {A = Entry} [] = rw none at within in absurd (omega arith)
    go p i (inr (j, log, at, same, is)) within =
        let known = before.each j log (omega (arith, slice_get_within run j log at)) at in
        rw (is, ← same) (known.each i (rw is at within))
