-- What explaining the run of a stream returns, reads and writes (docs/PROGRAM.md, "Explanations").
use Rattle.std.specs.Prelude.{◌≡◌, List, [], ℕ, ◌++◌, Result, Ok, Err, map}
use Rattle.std.specs.List.{flat_map}
use Rattle.std.specs.String.{string_bytes}
use Rattle.totem_names.specs.declared.version.Version.{Version}
use Rattle.totem_names.specs.Processes.{process_text}
use Rattle.totem_names.specs.Sources.{Seen}
use Rattle.totem_names.specs.Writing.{Held, Wrote}
use Rattle.totem_evs.specs.RunRecord.{RunRecord}
use Rattle.totem_evs.specs.declared.writing.WriteFault.{WriteFault}
use Rattle.totem_evs.specs.RunText.{line}
use Rattle.totem_evs.specs.ReportText.{fault_text}
use Rattle.totem_evs.specs.WriteRun.{WritesText}
use Rattle.totem_evs.specs.Answers.{Answer, Yes, No, IsAnswered}
use Rattle.totem_evs.specs.Meanings.{IsSound}
use Rattle.totem_explain.specs.declared.no.Explained.{Explained}
use Rattle.totem_explain.specs.declared.no.ExplainedNo.{ExplainedNo}
use Rattle.totem_verdicts.specs.AuditIo.{IsWhole, Says, Audits}
use Rattle.totem_verdicts.specs.declared.explain_stream.Explanation.{Explanation}
use Rattle.totem_verdicts.specs.declared.explain_stream.Explanation.TheVariants as explanations
use Rattle.totem_verdicts.specs.declared.outcome.Outcome.{Outcome}
use Rattle.totem_verdicts.specs.declared.verdict_fault.VerdictFault.{VerdictFault}

-- a fault after an empty line: its line as in the report, and its explanation
abbrev pub explained_text : Version → Explained → List ℕ
explained_text version one = line [] ++ line (fault_text (process_text version) one.fault) ++ string_bytes one.text

-- the explanation of a no: the heading, then fault by fault, and then the counts
abbrev pub explained_no_text : Version → ExplainedNo → List ℕ
explained_no_text version words = string_bytes words.heading ++ flat_map (explained_text version) words.faults.items ++ string_bytes words.closing

-- the text explains this answer: a no in words has each fault once and in order; of another text nothing is said
abbrev pub Explains : Explanation → Version → Answer → List ℕ → Type 0
Explains (explanations.Words columns) version (Yes lines pending waiting) text = Unit {0}
Explains (explanations.Words columns) version (No faults) text = (words : ExplainedNo) × (map (λ one. one.fault) words.faults.items ≡ faults) × (text ≡ explained_no_text version words)
Explains (explanations.Rendered rendering) version answer text = Unit {0}

-- a text that explains this answer was written; or nothing was; or the sink failed in this call
abbrev pub WritesExplanation : {A : Type 0} → Explanation → Version → Held → Held → Result A WriteFault → Answer → Type 0
WritesExplanation explanation version was is (Ok a) answer = (text : List ℕ) × Explains explanation version answer text × Wrote was is text
WritesExplanation explanation version was is (Err e) answer = WritesText {A = Unit {0}} was is (Err e) []

-- a whole run was read, and an explanation of its answer and nothing else was written; the outcome is the answer's
pub record IsExplained (explanation : Explanation) (old new : Seen) (was is : Held) (outcome : Outcome) : Type 0 where
  pub run : RunRecord
  pub whole : IsWhole old new run
  pub answer : Answer
  pub written : IsAnswered run.logs answer
  pub sound : IsSound run.logs answer
  pub explained : WritesExplanation {A = Unit {0}} explanation run.version was is (Ok tt) answer
  pub says : Says answer outcome

-- the explanation of the run's answer was written; on failure the same holds as for an audit
abbrev pub ExplainsRun : Explanation → Seen → Seen → Held → Held → Result Outcome VerdictFault → Type 0
ExplainsRun explanation old new was is (Ok outcome) = IsExplained explanation old new was is outcome
ExplainsRun explanation old new was is (Err fault) = Audits old new was is (Err fault)
