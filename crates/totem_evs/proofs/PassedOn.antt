-- What the readers of runs return.
use Rattle.std.proofs.Common.{arith}
use Rattle.totem_evs.proofs.Common.{◌≡◌, ℕ, List, [], Option, Err, refl, Version, Seen, Parsed, Reads, breaks_at, ReadState, ReadsAs, HasBegun, BeginsRun, FitsPart, LacksLog, ReadsPart}
use Rattle.totem_names.specs.declared.life.WrittenProc.{WrittenProc}
use Rattle.totem_names.specs.declared.fault.ReadError.{ReadError}
use Rattle.totem_names.specs.declared.fault.TextFault.TheVariants as text
use Rattle.totem_names.specs.Numbers.{word_at}
use Rattle.totem_evs.specs.declared.stage.Stage.{Stage}
use Rattle.totem_evs.specs.Parts.{begun_at, within_at, part_at}
use Rattle.totem_evs.specs.RunGrammar.{line_at, run_words, run_at}
use Rattle.totem_evs.specs.Heads.{head_at, header_at}
use Rattle.totem_evs.specs.RunFaults.{run_fault}
use Rattle.totem_evs.specs.declared.part.Part.{Part}

-- a reader's error, passed on
passed_on : {X Y : Type 0} (old new : Seen) (parse : List ℕ → Parsed X) (Fits : Y → Type 0) (Lacks : WrittenProc → Type 0) (e : ReadError) → parse [] ≡ Err text.Truncated → Reads {Y = X} old new (Err e) parse → ReadsAs old new parse Fits Lacks (Err (run_fault e))
passed_on old new parse Fits Lacks e h k = grind (arith, breaks_at)

-- no part is read from nothing
header_none : header_at run_words [] ≡ Err text.Truncated
unfolding header_at word_at
header_none = refl

part_none : (stage : Stage) → part_at stage [] ≡ Err text.Truncated
unfolding begun_at within_at head_at line_at
part_none stage = grind arith

pub run_none : run_at [] ≡ Err text.Truncated
unfolding run_at header_at word_at
run_none = refl

-- the first line was not read
pub header_fault : (old new : Seen) (e : ReadError) → Reads {Y = Version} old new (Err e) (header_at run_words) → BeginsRun old new (Err (run_fault e))
header_fault old new e h = passed_on old new (header_at run_words) (HasBegun old new) (λ p. ⊥) e header_none h

-- a part was not read
pub part_fault : (old new : Seen) (s t : ReadState) (e : ReadError) → Reads {Y = Option Part} old new (Err e) (part_at s.stage) → ReadsPart old new s t (Err (run_fault e))
part_fault old new s t e h = passed_on old new (part_at s.stage) (FitsPart old new s t) (LacksLog old new s) e (part_none s.stage) h
