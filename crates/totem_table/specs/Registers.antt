-- What is known about the entries of a run (docs/SPECIFICATIONS.md, "Faults"), each by its process, its log and its index.
use Rattle.std.specs.Prelude.{◌≡◌, ℕ, ◌<◌, List, length}
use Rattle.totem_evs.specs.declared.entry.Entry.{Entry}
use Rattle.totem_evs.specs.declared.log.Log.{Log}
use Rattle.totem_evs.specs.Events.{log_of}

-- what was known stays known
pub record Keeps (P Q : ℕ → List Entry → ℕ → Type 0) : Type 0 where
  pub each : (p : ℕ) (log : List Entry) (i : ℕ) → P p log i → Q p log i

-- what was true of each run in which this is p's log stays true
pub record StaysSound (P Q : List Log → Type 0) (p : ℕ) (log : List Entry) : Type 0 where
  pub each : (run : List Log) → log ≡ log_of run p → P run → Q run

-- the first n entries of p's log are known
pub record KnowsLog (P : ℕ → List Entry → ℕ → Type 0) (p : ℕ) (log : List Entry) (n : ℕ) : Type 0 where
  pub each : (i : ℕ) → i < n → P p log i

-- all entries of the run are known
pub record KnowsRun (P : ℕ → List Entry → ℕ → Type 0) (run : List Log) : Type 0 where
  pub each : (p i : ℕ) → i < length (log_of run p) → P p (log_of run p) i
