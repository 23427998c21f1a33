-- What saying what became of a message returns, reads and writes (docs/PROGRAM.md, "One message").
use Rattle.std.specs.Prelude.{List, ℕ, Bool, Result, Ok, Err}
use Rattle.totem_names.specs.Sources.{Seen}
use Rattle.totem_names.specs.Writing.{Held, Wrote}
use Rattle.totem_evs.specs.RunRecord.{RunRecord}
use Rattle.totem_verdicts.specs.AuditIo.{IsWhole, Audits}
use Rattle.totem_verdicts.specs.declared.verdict_fault.VerdictFault.{VerdictFault}

-- a whole run was read, and some text and nothing else was written; the run was not judged
pub record IsTraced (old new : Seen) (was is : Held) : Type 0 where
  pub run : RunRecord
  pub whole : IsWhole old new run
  pub text : List ℕ
  pub wrote : Wrote was is text

-- what became of a message was written, and the contract says neither with which words nor whether a log names it; on failure the same
-- holds as for an audit
abbrev pub TracesRun : Seen → Seen → Held → Held → Result Bool VerdictFault → Type 0
TracesRun old new was is (Ok found) = IsTraced old new was is
TracesRun old new was is (Err fault) = Audits old new was is (Err fault)
