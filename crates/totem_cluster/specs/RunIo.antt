-- What a run in threads writes (docs/PROTOCOL.md, "A run in threads").
use Rattle.std.specs.Prelude.{◌≡◌, ℕ, ◌+◌, ◌%◌, ◌^◌, List, All, Result, Ok, Err}
use Rattle.totem_names.specs.declared.version.Version.TheVariants as versions
use Rattle.totem_names.specs.Writing.{Held, Wrote}
use Rattle.totem_evs.specs.RunRecord.{RunRecord}
use Rattle.totem_evs.specs.Runs.{IsRunOf as IsRunRecord}
use Rattle.totem_evs.specs.Lives.{HasFirstLives}
use Rattle.totem_evs.specs.RunText.{run_text}
use Rattle.totem_books.specs.Seats.{Closed}
use Rattle.totem_threads.specs.Books.{IsRunOf}
use Rattle.totem_threads.specs.Faults.{IsFullBook}
use Rattle.totem_verdicts.specs.declared.outcome.Outcome.{Outcome}
use Rattle.totem_verdicts.specs.declared.outcome.Outcome.TheVariants as outcomes
use Rattle.totem_cluster.specs.declared.io_fault.IoFault.{IoFault}
use Rattle.totem_cluster.specs.declared.io_fault.IoFault.TheVariants as faults

-- a book was full or its log too long for a run, which are the only faults of a book; or memory or a thread was refused
abbrev pub IsOfThreads : IoFault → Type 0
IsOfThreads (faults.Book trouble) = IsFullBook trouble
IsOfThreads faults.Memory = Unit {0}
IsOfThreads faults.Write = ⊥
IsOfThreads (faults.Run fault) = ⊥
IsOfThreads (faults.Cert fault) = ⊥
IsOfThreads (faults.Refused fault) = ⊥
IsOfThreads (faults.Script fault) = ⊥

-- a book was closed for each of these nodes, and the text of their logs was written, in version 1, which
-- names no life but the first, and nothing else
pub record IsRecorded (nodes : ℕ) (was is : Held) : Type 0 where
  pub books : List Closed
  pub run : RunRecord
  pub is_run : IsRunRecord run
  pub version : run.version ≡ versions.One
  pub lives : All HasFirstLives run.logs
  pub run_of : IsRunOf nodes books run.logs
  pub written : Wrote was is (run_text run)

-- the run was written; or nothing was, because a book was full, its log was too long, or memory or a thread was refused; or the
-- sink failed in this call
abbrev pub Records : ℕ → Held → Held → Result Outcome IoFault → Type 0
Records nodes was is (Ok outcomes.Made) = IsRecorded nodes was is
Records nodes was is (Ok outcomes.Yes) = ⊥
Records nodes was is (Ok outcomes.No) = ⊥
Records nodes was is (Err (faults.Book trouble)) = IsFullBook trouble × (is ≡ was)
Records nodes was is (Err faults.Memory) = is ≡ was
Records nodes was is (Err faults.Write) = is.failures ≡ (was.failures + 1) % 2 ^ 64
Records nodes was is (Err (faults.Run fault)) = ⊥
Records nodes was is (Err (faults.Cert fault)) = ⊥
Records nodes was is (Err (faults.Refused fault)) = ⊥
Records nodes was is (Err (faults.Script fault)) = ⊥
