-- What auditing a stream returns, reads and writes (docs/SPECIFICATIONS.md, "Report text").
use Rattle.std.specs.Prelude.{◌≡◌, ◌≢◌, ◌⊎◌, ◌+◌, ◌%◌, ◌^◌, IfSome, Result, Ok, Err}
use Rattle.std.specs.Io.KnownBytes.{Consumes}
use Rattle.totem_names.specs.Sources.{Seen}
use Rattle.totem_names.specs.Writing.{Held, Wrote}
use Rattle.totem_evs.specs.RunRecord.{RunRecord}
use Rattle.totem_evs.specs.declared.run.Run.{Run}
use Rattle.totem_evs.specs.declared.run_fault.RunFault.{RunFault}
use Rattle.totem_evs.specs.declared.run_fault.RunFault.TheVariants as run_faults
use Rattle.totem_evs.specs.Runs.{IsRunOf}
use Rattle.totem_evs.specs.RunText.{run_text}
use Rattle.totem_evs.specs.Missing.{EachHasLog, all_members}
use Rattle.totem_evs.specs.Reading.{ReadsRun, ReadsEnd, FitsRun}
use Rattle.totem_evs.specs.Answers.{Answer, Yes, No, IsAnswered}
use Rattle.totem_evs.specs.Meanings.{IsSound}
use Rattle.totem_verdicts.specs.Report.{report_text}
use Rattle.totem_verdicts.specs.declared.report.Form.{Form}
use Rattle.totem_verdicts.specs.declared.report.Form.TheVariants as forms
use Rattle.totem_verdicts.specs.declared.outcome.Outcome.{Outcome}
use Rattle.totem_verdicts.specs.declared.outcome.Outcome.TheVariants as outcomes
use Rattle.totem_verdicts.specs.declared.verdict_fault.VerdictFault.{VerdictFault}
use Rattle.totem_verdicts.specs.declared.verdict_fault.VerdictFault.TheVariants as faults

-- the outcome of the answer
abbrev pub Says : Answer → Outcome → Type 0
Says (Yes lines pending waiting) outcomes.Yes = Unit {0}
Says (Yes lines pending waiting) outcomes.No = ⊥
Says (Yes lines pending waiting) outcomes.Made = ⊥
Says (No faults) outcomes.Yes = ⊥
Says (No faults) outcomes.No = Unit {0}
Says (No faults) outcomes.Made = ⊥

-- the rest of the input was the text of a run in which each member has a log, and all of it was read
pub record IsWhole (old new : Seen) (run : RunRecord) : Type 0 where
  pub is : IsRunOf run
  pub logged : EachHasLog run.logs (all_members run.logs)
  pub text : IfSome old.remaining (λ bytes. bytes ≡ run_text run)
  pub taken : Consumes old.remaining new.remaining (run_text run)
  pub failures : new.failures ≡ old.failures

-- a whole run was read, and the report of its answer in this form and nothing else was written; the outcome is the answer's
pub record IsReported (form : Form) (old new : Seen) (was is : Held) (outcome : Outcome) : Type 0 where
  pub run : RunRecord
  pub whole : IsWhole old new run
  pub answer : Answer
  pub written : IsAnswered run.logs answer
  pub sound : IsSound run.logs answer
  pub report : Wrote was is (report_text form run.version answer)
  pub says : Says answer outcome

-- reading the run gives this fault, or the run was read and the input doesn't end after it
abbrev pub IsRefused : Seen → Seen → RunFault → Type 0
IsRefused old new fault = ReadsRun old new (Err fault) ⊎ ((between : Seen) × (run : Run) × FitsRun old between run × ReadsEnd between new (Err fault))

-- the result of reading a whole run
abbrev pub ReadsWhole : Seen → Seen → Result Run RunFault → Type 0
ReadsWhole old new (Ok run) = IsWhole old new run
ReadsWhole old new (Err fault) = IsRefused old new fault

-- the report was written; or nothing was, because the input was refused or failed, or memory was refused; or the sink failed
-- in this call, after a whole run
abbrev pub Reports : Form → Seen → Seen → Held → Held → Result Outcome VerdictFault → Type 0
Reports form old new was is (Ok outcome) = IsReported form old new was is outcome
Reports form old new was is (Err (faults.Run fault)) = (is ≡ was) × (fault ≢ run_faults.Memory) × IsRefused old new fault
Reports form old new was is (Err (faults.Cert fault)) = ⊥
Reports form old new was is (Err (faults.Refused fault)) = ⊥
Reports form old new was is (Err faults.Memory) = (is ≡ was) × (new.failures ≡ old.failures)
Reports form old new was is (Err faults.Write) = (is.failures ≡ (was.failures + 1) % 2 ^ 64) × ((run : RunRecord) × IsWhole old new run)

-- the whole report was written, or not
abbrev pub Audits : Seen → Seen → Held → Held → Result Outcome VerdictFault → Type 0
Audits = Reports forms.Whole
