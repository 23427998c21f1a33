-- What holds of each log of a run, log after log; and that they stay in place.
use Rattle.totem_judge_run.proofs.Common.{slice_get_read, below_more, ◌≡◌, ℕ, ◌+◌, ◌<◌, ◌≤◌, List, [], length, slice_get, Some, refl, arith, slice_get_within, Place, Entry, Log, StaysInPlace, log_of, log_of_cases, AllStayInPlace}

module _ (P : List Entry → Type 0) where
  -- P holds of each log before the one at k
  pub record EachBefore (run : List Log) (k : ℕ) : Type 0 where
    pub each : (j : ℕ) (log : Log) → j < k → slice_get run j ≡ Some log → P log.entries

  pub one_more : (run : List Log) (k : ℕ) (log : Log) → slice_get run k ≡ Some log → P log.entries → EachBefore run k → EachBefore run (k + 1)
  one_more run k log at here before = grind (arith, below_more)

  pub each_process : (run : List Log) (k : ℕ) → P [] → length run ≤ k → EachBefore run k → (p : ℕ) → P (log_of run p)
  each_process run k empty end before p = grind (arith, log_of_cases, slice_get_within)

pub ruleset log_by_log = (slice_get_read, one_more, each_process)

empty_placed : StaysInPlace []
empty_placed = grind arith

pub all_logs : (run : List Log) (k : ℕ) → length run ≤ k → EachBefore StaysInPlace run k → AllStayInPlace run
all_logs run k end placed = record { each = each_process StaysInPlace run k empty_placed end placed }

-- places of one process and one number are one
pub same_place : (p n : ℕ) (f : Place) → p ≡ f.proc → n ≡ f.at → record { proc = p; at = n } ≡ f
same_place p n f procs ats = rw (procs, ats) refl
