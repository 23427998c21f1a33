-- The endings of the calls that answer a command line: the status, and what is printed (docs/PROGRAM.md).
use Rattle.std.specs.Prelude.{◌≡◌, ◌⊎◌, ℕ, ◌+◌, ◌%◌, ◌^◌, List, [], ◌++◌, codes, decimal, Bool, true, false, Some, None, Ok, Err}
use Rattle.std.specs.declared.option.Option.{Option}
use Rattle.clap.specs.declared.error.kind.ErrorKind.{ErrorKind}
use Rattle.clap.specs.declared.error.kind.ErrorKind.TheVariants as kinds
use Rattle.totem_names.specs.declared.message.MsgId.{MsgId}
use Rattle.totem_names.specs.Processes.{process_text}
use Rattle.totem_names.specs.Sources.{Seen}
use Rattle.totem_names.specs.Writing.{Held, Wrote}
use Rattle.totem_evs.specs.declared.run_fault.RunFault.{RunFault}
use Rattle.totem_evs.specs.declared.run_fault.RunFault.TheVariants as run_faults
use Rattle.totem_evs.specs.RunText.{line}
use Rattle.totem_evs.specs.RunFaults.{fault_number, fault_name}
use Rattle.totem_certificate.specs.declared.cert_fault.CertFault.{CertFault}
use Rattle.totem_certificate.specs.declared.cert_fault.CertFault.TheVariants as cert_faults
use Rattle.totem_certificate.specs.CertFaults.{fault_number as cert_fault_number, fault_name as cert_fault_name}
use Rattle.totem_outcome.specs.declared.check_fault.CheckFault.{CheckFault}
use Rattle.totem_outcome.specs.CheckFaults.{fault_number as check_fault_number, fault_name as check_fault_name}
use Rattle.totem_verdicts.specs.declared.outcome.Outcome.{Outcome}
use Rattle.totem_verdicts.specs.declared.outcome.Outcome.TheVariants as outcomes
use Rattle.totem_verdicts.specs.declared.verdict_fault.VerdictFault.{VerdictFault}
use Rattle.totem_verdicts.specs.declared.verdict_fault.VerdictFault.TheVariants as faults
use Rattle.totem_verdicts.specs.declared.report.Form.{Form}
use Rattle.totem_verdicts.specs.declared.words.Asked.{Asked}
use Rattle.totem_verdicts.specs.declared.words.Asked.TheVariants as asks
use Rattle.totem_verdicts.specs.declared.explain_stream.Explanation.{Explanation}
use Rattle.totem_verdicts.specs.AuditIo.{Reports, Audits}
use Rattle.totem_verdicts.specs.CheckIo.{ChecksText}
use Rattle.totem_verdicts.specs.ExplainIo.{ExplainsRun}
use Rattle.totem_verdicts.specs.TraceIo.{TracesRun}

-- a sink's contents and failures, with no pieces gathered for it
abbrev pub bare : {S : Type 0} → (S → Option (List ℕ)) → (S → ℕ) → S → Held
bare contents failures s = record { contents = contents s; failures = failures s }

-- the text was written to the stream, or the stream failed in this call
abbrev pub Tells : Held → Held → List ℕ → Type 0
Tells old new text = Wrote old new text ⊎ (new.failures ≡ (old.failures + 1) % 2 ^ 64)

-- ---- outcomes and faults

-- the status of an outcome
abbrev pub outcome_status : Outcome → ℕ
outcome_status outcomes.Yes = 0
outcome_status outcomes.No = 1
outcome_status outcomes.Made = 0

-- the status with which a message is looked for: whether a log names it
abbrev pub found_status : Bool → ℕ
found_status true = 0
found_status false = 6

-- the text of a refusal: what was refused, the number and the name of the fault
abbrev pub refusal_text : List ℕ → ℕ → List ℕ → List ℕ
refusal_text front number name = front ++ decimal number ++ codes " " ++ name

-- the process that a run's fault names, if it names one
abbrev pub missing_text : RunFault → List ℕ
missing_text (run_faults.MissingLog p) = codes " " ++ process_text p.version p.process
missing_text fault = []

abbrev pub run_line : RunFault → List ℕ
run_line run_faults.Read = line (codes "totem: read failed")
run_line fault = line (refusal_text (codes "totem: run refused: ") (fault_number fault) (fault_name fault) ++ missing_text fault)

abbrev pub cert_line : CertFault → List ℕ
cert_line cert_faults.Read = line (codes "totem: read failed")
cert_line fault = line (refusal_text (codes "totem: certificate unreadable: ") (cert_fault_number fault) (cert_fault_name fault))

abbrev pub check_line : CheckFault → List ℕ
check_line fault = line (refusal_text (codes "totem: certificate refused: ") (check_fault_number fault) (check_fault_name fault))

abbrev pub memory_line : List ℕ
memory_line = line (codes "totem: out of memory")

abbrev pub write_line : List ℕ
write_line = line (codes "totem: write failed")

-- the line that reports a fault
abbrev pub fault_line : VerdictFault → List ℕ
fault_line (faults.Run fault) = run_line fault
fault_line (faults.Cert fault) = cert_line fault
fault_line (faults.Refused fault) = check_line fault
fault_line faults.Memory = memory_line
fault_line faults.Write = write_line

abbrev pub run_status : RunFault → ℕ
run_status run_faults.Read = 4
run_status fault = 2

abbrev pub cert_status : CertFault → ℕ
cert_status cert_faults.Read = 4
cert_status fault = 2

-- the status of a fault
abbrev pub fault_status : VerdictFault → ℕ
fault_status (faults.Run fault) = run_status fault
fault_status (faults.Cert fault) = cert_status fault
fault_status (faults.Refused fault) = 2
fault_status faults.Memory = 3
fault_status faults.Write = 4

-- ---- help, the version, and usage errors

-- help or the version is asked for
abbrev pub IsAsked : ErrorKind → Type 0
IsAsked kind = (kind ≡ kinds.DisplayHelp) ⊎ (kind ≡ kinds.DisplayVersion)

-- what was written to the output and the errors for a text that was asked for, and the status
pub data Shows (was is quiet said : Held) (text : List ℕ) : ℕ → Type 0 where
  -- it is written
  shown : Wrote was is text → said ≡ quiet → Shows was is quiet said text 0
  -- memory was refused, and nothing written
  unmade : is ≡ was → Tells quiet said memory_line → Shows was is quiet said text 3
  -- the output failed
  unshown : is.failures ≡ (was.failures + 1) % 2 ^ 64 → Tells quiet said write_line → Shows was is quiet said text 4

-- what is printed for arguments that ask for no audit, check, simulation or run, and the status
pub data Answers (kind : ErrorKind) (was is quiet said : Held) : ℕ → Type 0 where
  -- help or the version was asked for
  helped : (text : List ℕ) (status : ℕ) → IsAsked kind → Shows was is quiet said text status → Answers kind was is quiet said status
  -- the arguments are a usage error, which is reported
  misused : (text : List ℕ) → (IsAsked kind → ⊥) → is ≡ was → Tells quiet said text → Answers kind was is quiet said 64
  -- memory was refused
  starved : is ≡ was → Tells quiet said memory_line → Answers kind was is quiet said 3

-- ---- verdicts

-- what is printed for a fault: its line and an explanation, or that memory for the explanation was refused; and the status
pub data Points (fault : VerdictFault) (quiet said : Held) : ℕ → Type 0 where
  pointed : (words : List ℕ) → Tells quiet said (fault_line fault ++ words) → Points fault quiet said (fault_status fault)
  wordless : Tells quiet said memory_line → Points fault quiet said 3

-- how a run with this outcome is concluded: by its status; or, if it is a yes, with a line about what it did not put to the test, and status 5;
-- or with a line that says that a fault that was asked for is not there, and status 6
pub data Concludes (outcome : Outcome) (quiet said : Held) : ℕ → Type 0 where
  concluded : said ≡ quiet → Concludes outcome quiet said (outcome_status outcome)
  faultless : (text : List ℕ) → Tells quiet said text → Concludes outcome quiet said 6
  untested : (text : List ℕ) → outcome ≡ outcomes.Yes → Tells quiet said text → Concludes outcome quiet said 5

-- a run was judged, and its report written in this form; or it was not, and the fault is reported
pub data GivesReport (form : Form) (old new : Seen) (was is quiet said : Held) : ℕ → Type 0 where
  judged : (outcome : Outcome) → Reports form old new was is (Ok outcome) → said ≡ quiet → GivesReport form old new was is quiet said (outcome_status outcome)
  failed : (fault : VerdictFault) → Reports form old new was is (Err fault) → Tells quiet said (fault_line fault) → GivesReport form old new was is quiet said (fault_status fault)

-- a run was judged and explained; or it was not, and the fault is reported with an explanation
pub data GivesExplanation (explanation : Explanation) (old new : Seen) (was is quiet said : Held) : ℕ → Type 0 where
  explained : (outcome : Outcome) (status : ℕ) → ExplainsRun explanation old new was is (Ok outcome) → Concludes outcome quiet said status → GivesExplanation explanation old new was is quiet said status
  unexplained : (fault : VerdictFault) (status : ℕ) → Audits old new was is (Err fault) → Points fault quiet said status → GivesExplanation explanation old new was is quiet said status

-- a run was read, and a message looked for in it; or it was not, and the fault is reported with an explanation
pub data GivesTrace (old new : Seen) (was is quiet said : Held) : ℕ → Type 0 where
  traced : (found : Bool) → TracesRun old new was is (Ok found) → said ≡ quiet → GivesTrace old new was is quiet said (found_status found)
  untraced : (fault : VerdictFault) (status : ℕ) → Audits old new was is (Err fault) → Points fault quiet said status → GivesTrace old new was is quiet said status

-- nothing was read, and a text about what is no name of a message is reported
pub data Misnames (old new : Seen) (was is quiet said : Held) : ℕ → Type 0 where
  misnamed : (text : List ℕ) → new ≡ old → is ≡ was → Tells quiet said text → Misnames old new was is quiet said 64

-- a run was checked with its certificate; or it was not, and the fault is reported
pub data GivesCheck (old new : Seen) (was is quiet said : Held) : ℕ → Type 0 where
  checked : (outcome : Outcome) → ChecksText old new was is (Ok outcome) → said ≡ quiet → GivesCheck old new was is quiet said (outcome_status outcome)
  unchecked : (fault : VerdictFault) → ChecksText old new was is (Err fault) → Tells quiet said (fault_line fault) → GivesCheck old new was is quiet said (fault_status fault)

-- a message was looked for, if what the arguments have is the name of one
abbrev pub Traces : Option MsgId → Seen → Seen → Held → Held → Held → Held → ℕ → Type 0
Traces (Some message) = GivesTrace
Traces None = Misnames

-- what was asked for was done: what was read, what was written to the output and the errors, and the status
abbrev pub Judges : Asked → Seen → Seen → Held → Held → Held → Held → ℕ → Type 0
Judges (asks.Audit workers form) = GivesReport form
Judges (asks.Message message columns) = Traces message
Judges (asks.Explain workers explanation required) = GivesExplanation explanation
Judges (asks.Check checker) = GivesCheck

-- ---- the auditor

-- what was read, what was written to the output and the errors, and the status
pub data Ends (old new : Seen) (was is quiet said : Held) : ℕ → Type 0 where
  -- the arguments ask for a verdict; the contract does not say which arguments ask for which
  asked : (what : Asked) (status : ℕ) → Judges what old new was is quiet said status → Ends old new was is quiet said status
  -- nothing was read, and the arguments are answered; the contract says neither with which text nor for which arguments
  answered : (kind : ErrorKind) (status : ℕ) → new ≡ old → Answers kind was is quiet said status → Ends old new was is quiet said status
  -- nothing was read, and the auditor reports that it makes no runs
  lacking : (text : List ℕ) → new ≡ old → is ≡ was → Tells quiet said text → Ends old new was is quiet said 64
