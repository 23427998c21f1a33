-- What the readers of runs return, and what they leave unread (docs/SPECIFICATIONS.md, "Run text").
use Rattle.totem_names.specs.declared.life.WrittenProc.{WrittenProc}
use Rattle.totem_names.specs.declared.version.Version.{Version}
use Rattle.totem_evs.specs.RunRecord.{RunRecord}
use Rattle.std.specs.Prelude.{◌≡◌, ℕ, ◌+◌, ◌%◌, ◌^◌, ◌≤◌, List, ◌∷◌, [], Contains, Option, Some, None, Result, Ok, Err}
use Rattle.std.specs.Io.KnownBytes.{Consumes, IsAtEnd, Keeps}
use Rattle.totem_names.specs.declared.fault.TextFault.TheVariants as text
use Rattle.totem_names.specs.Sources.{Seen, Parsed, Comes, Breaks, BreaksAt, Stops}
use Rattle.totem_evs.specs.declared.run.Run.{Run}
use Rattle.totem_evs.specs.declared.run_fault.RunFault.{RunFault}
use Rattle.totem_evs.specs.declared.run_fault.RunFault.TheVariants as faults
use Rattle.totem_evs.specs.declared.part.Part.{Part}
use Rattle.totem_evs.specs.declared.run_reader.Next.{Next}
use Rattle.totem_evs.specs.declared.run_reader.Next.TheVariants as next
use Rattle.totem_evs.specs.Runs.{IsRunOf}
use Rattle.totem_evs.specs.RunText.{run_text}
use Rattle.totem_evs.specs.Heads.{header_at}
use Rattle.totem_evs.specs.RunGrammar.{run_words, run_at}
use Rattle.totem_evs.specs.Missing.{EachHasLog, IsLeastMissing, all_members}
use Rattle.totem_evs.specs.Parts.{part_at}
use Rattle.totem_evs.specs.ReadState.{ReadState, IsFirst, IsPart, Goes, MayCome}

-- the result fits; a log is missing; the text is faulty as the grammar says, whatever follows the bytes that were
-- taken, the last of which is the first that breaks a rule; the text ended and was too short; the source failed in this
-- call, after bytes that begin a text; or memory was refused
abbrev pub ReadsAs : {X Y : Type 0} → Seen → Seen → (List ℕ → Parsed X) → (Y → Type 0) → (WrittenProc → Type 0) → Result Y RunFault → Type 0
ReadsAs old new parse Fits Lacks (Ok y) = Fits y
ReadsAs old new parse Fits Lacks (Err faults.Header) = BreaksAt old new parse text.Header
ReadsAs old new parse Fits Lacks (Err faults.Word) = BreaksAt old new parse text.Word
ReadsAs old new parse Fits Lacks (Err faults.Number) = BreaksAt old new parse text.Number
ReadsAs old new parse Fits Lacks (Err faults.Order) = BreaksAt old new parse text.Order
ReadsAs old new parse Fits Lacks (Err faults.Members) = BreaksAt old new parse text.Members
ReadsAs old new parse Fits Lacks (Err faults.End) = BreaksAt old new parse text.End
ReadsAs old new parse Fits Lacks (Err faults.Truncated) = Breaks old new parse text.Truncated
ReadsAs old new parse Fits Lacks (Err faults.TooMany) = BreaksAt old new parse text.TooMany
ReadsAs old new parse Fits Lacks (Err (faults.MissingLog p)) = Lacks p
ReadsAs old new parse Fits Lacks (Err faults.Read) = Stops old new parse
ReadsAs old new parse Fits Lacks (Err faults.Memory) = new.failures ≡ old.failures

-- ---- part by part

-- the first line was taken
pub record HasBegun (old new : Seen) (s : ReadState) : Type 0 where
  pub version : Version
  pub taken : Comes old new (header_at run_words) (λ more. Ok (version, more))
  pub first : IsFirst version s

-- the result of beginning a run
abbrev pub BeginsRun : Seen → Seen → Result ReadState RunFault → Type 0
BeginsRun old new = ReadsAs old new (header_at run_words) (HasBegun old new) (λ p. ⊥)

-- a part was taken that may follow here, and it leads to that state
pub record HasPart (old new : Seen) (s : ReadState) (part : Part) (t : ReadState) : Type 0 where
  pub taken : Comes old new (part_at s.stage) (λ more. Ok (Some part, more))
  pub comes : MayCome s.stage (Some part)
  pub is : IsPart part
  pub goes : Goes s part t

-- the last line was taken
pub record HasEnded (old new : Seen) (s : ReadState) : Type 0 where
  pub taken : Comes old new (part_at s.stage) (λ more. Ok (None, more))
  pub comes : MayCome s.stage None

-- a part with the state after it, or the end if no member waits
abbrev pub FitsNext : Seen → Seen → ReadState → Next → Type 0
FitsNext old new s (next.Part part t) = HasPart old new s part t
FitsNext old new s next.End = HasEnded old new s × ((q : ℕ) → Contains s.waiting q → ⊥)

-- the end, if p is the least member that waits, named as texts of this version write it
abbrev pub LacksLog : Seen → Seen → ReadState → WrittenProc → Type 0
LacksLog old new s p = HasEnded old new s × (p.version ≡ s.stage.version) × Contains s.waiting p.process × ((q : ℕ) → Contains s.waiting q → p.process ≤ q)

-- a part with the state after it, or the end if no member waits
abbrev pub FitsPart : Seen → Seen → ReadState → ReadState → Option Part → Type 0
FitsPart old new s t (Some part) = HasPart old new s part t
FitsPart old new s t None = HasEnded old new s × ((q : ℕ) → Contains s.waiting q → ⊥)

-- the result of a step of reading that leads from one state to another
abbrev pub ReadsPart : Seen → Seen → ReadState → ReadState → Result (Option Part) RunFault → Type 0
ReadsPart old new s t = ReadsAs old new (part_at s.stage) (FitsPart old new s t) (LacksLog old new s)

-- the result of reading the next part
abbrev pub ReadsNext : Seen → Seen → ReadState → Result Next RunFault → Type 0
ReadsNext old new s = ReadsAs old new (part_at s.stage) (FitsNext old new s) (LacksLog old new s)

-- ---- the whole run

-- the bytes that were taken are the text of these logs, and are read as them, whatever follows
pub record IsRead (old new : Seen) (run : RunRecord) : Type 0 where
  pub is : IsRunOf run
  pub taken : Comes old new run_at (λ more. Ok (run, more))
  pub text : Consumes old.remaining new.remaining (run_text run)

-- a run was read, and each of its members has a log
abbrev pub FitsRun : Seen → Seen → Run → Type 0
FitsRun old new run = IsRead old new run × EachHasLog run.logs (all_members run.logs)

-- a run was read, and p is its least member without a log, named as texts of the run's version write it
abbrev pub LacksRun : Seen → Seen → WrittenProc → Type 0
LacksRun old new p = (run : RunRecord) × IsRead old new run × (p.version ≡ run.version) × IsLeastMissing run.logs (all_members run.logs) p.process

-- the result of reading a run
abbrev pub ReadsRun : Seen → Seen → Result Run RunFault → Type 0
ReadsRun old new = ReadsAs old new run_at (FitsRun old new) (LacksRun old new)

-- the result of reading the end: it was reached; there is a byte, which was taken; or the source failed in this call
abbrev pub ReadsEnd : Seen → Seen → Result (Unit {0}) RunFault → Type 0
ReadsEnd old new (Ok u) = IsAtEnd old.remaining × Keeps old.remaining new.remaining × (new.failures ≡ old.failures)
ReadsEnd old new (Err faults.End) = (b : ℕ) × Consumes old.remaining new.remaining (b ∷ []) × (new.failures ≡ old.failures)
ReadsEnd old new (Err faults.Read) = Keeps old.remaining new.remaining × (new.failures ≡ (old.failures + 1) % 2 ^ 64)
ReadsEnd old new (Err other) = ⊥
