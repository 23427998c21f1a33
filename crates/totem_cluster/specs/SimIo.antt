-- What simulating a script from a stream returns, reads and writes (docs/PROTOCOL.md, "Scripts").
use Rattle.std.specs.Prelude.{◌≡◌, ◌≢◌, ◌⊎◌, ℕ, ◌+◌, ◌%◌, ◌^◌, ◌==◌, ◌≤◌, List, length, take, count_by, Bool, true, false, IfSome, Result, Ok, Err}
use Rattle.std.specs.declared.alloc.AllocError.{AllocError}
use Rattle.std.specs.Io.KnownBytes.{Consumes}
use Rattle.totem_names.specs.Sources.{Seen}
use Rattle.totem_names.specs.Writing.{Held, Wrote}
use Rattle.totem_evs.specs.declared.run.Run.{Run}
use Rattle.totem_evs.specs.RunText.{run_text}
use Rattle.totem_script.specs.declared.script_fault.FaultyLine.{FaultyLine}
use Rattle.totem_script.specs.declared.script_fault.ScriptFault.{ScriptFault}
use Rattle.totem_script.specs.declared.script_fault.ScriptFault.TheVariants.{Truncated, Read, Memory}
use Rattle.totem_script.specs.Simulation.{Told, simulate}
use Rattle.totem_cluster.specs.declared.simulating.Reading.{Reading}
use Rattle.totem_cluster.specs.declared.simulating.Unmade.{Unmade}
use Rattle.totem_verdicts.specs.declared.outcome.Outcome.{Outcome}
use Rattle.totem_verdicts.specs.declared.outcome.Outcome.TheVariants as outcomes
use Rattle.totem_cluster.specs.declared.io_fault.IoFault.{IoFault}
use Rattle.totem_cluster.specs.declared.io_fault.IoFault.TheVariants as faults

-- ---- reading

-- the number of bytes that are read at most: one more than a script may have
abbrev pub most_read : ℕ
most_read = 65537

-- the script was read, to the end of the input or up to that number of bytes
pub record IsRead (old new : Seen) (read : List ℕ) : Type 0 where
  pub taken : Consumes old.remaining new.remaining read
  pub whole : IfSome old.remaining (λ bytes. read ≡ take most_read bytes)
  pub failures : new.failures ≡ old.failures

-- the source failed after these bytes
pub record BreaksOff (old new : Seen) (read : List ℕ) : Type 0 where
  pub taken : Consumes old.remaining new.remaining read
  pub failures : new.failures ≡ (old.failures + 1) % 2 ^ 64

abbrev pub IsReading : Bool → Seen → Seen → List ℕ → Type 0
IsReading false old new read = IsRead old new read
IsReading true old new read = BreaksOff old new read

-- the result of reading a script
abbrev pub ReadsScript : Seen → Seen → Result Reading AllocError → Type 0
ReadsScript old new (Ok reading) = IsReading reading.failed old new reading.bytes.items × (length reading.bytes.items ≤ most_read)
ReadsScript old new (Err e) = new.failures ≡ old.failures

-- ---- faults

-- the script can't be read further: the fault names the line that is under way
abbrev pub unread : List ℕ → FaultyLine
unread read = record { kind = Read; line = count_by (λ b. b == 10) read + 1 }

-- a fault in an earlier line takes precedence
abbrev pub unless_earlier : FaultyLine → FaultyLine → ScriptFault → FaultyLine
unless_earlier now earlier Truncated = now
unless_earlier now earlier Memory = now
unless_earlier now earlier kind = earlier

abbrev pub fault_of_rest : FaultyLine → Told Run → FaultyLine
fault_of_rest now (Ok run) = now
fault_of_rest now (Err earlier) = unless_earlier now earlier earlier.kind

-- the fault of a script whose source failed after these bytes
abbrev pub fault_behind : List ℕ → FaultyLine
fault_behind read = fault_of_rest (unread read) (simulate read)

-- this is that fault, unless memory was refused
pub record IsBehind (fault : FaultyLine) (read : List ℕ) : Type 0 where
  pub is : fault.kind ≢ Memory → fault ≡ fault_behind read

-- ---- the call

-- the script was read, this is its run, and the run's text and nothing else was written
pub record IsSimulated (old new : Seen) (was is : Held) : Type 0 where
  pub read : List ℕ
  pub run : Run
  pub is_read : IsRead old new read
  pub made : simulate read ≡ Ok run
  -- if the bytes are known, the run is that of all of them
  pub of_all : IfSome old.remaining (λ bytes. simulate bytes ≡ Ok run)
  pub written : Wrote was is (run_text run)

-- a script was read, and makes no run
pub record IsNoScript (old new : Seen) (fault : FaultyLine) : Type 0 where
  pub read : List ℕ
  pub is_read : IsRead old new read
  pub made : simulate read ≡ Err fault
  pub of_all : IfSome old.remaining (λ bytes. simulate bytes ≡ Err fault)

-- the source failed
pub record IsUnread (old new : Seen) (fault : FaultyLine) : Type 0 where
  pub read : List ℕ
  pub breaks_off : BreaksOff old new read
  pub fault_is : fault ≡ fault_behind read

-- a run was made, and then the sink failed
pub record IsUnwritten (old new : Seen) : Type 0 where
  pub read : List ℕ
  pub run : Run
  pub is_read : IsRead old new read
  pub made : simulate read ≡ Ok run

-- the outcome of a script whose run was written
abbrev pub IsMade : Seen → Seen → Held → Held → Outcome → Type 0
IsMade old new was is outcomes.Made = IsSimulated old new was is
IsMade old new was is outcomes.Yes = ⊥
IsMade old new was is outcomes.No = ⊥

-- nothing was written, because the script was refused in this line or its source failed there, or memory was refused; or the sink
-- failed in this call, after a whole script
abbrev pub IsUnmade : Seen → Seen → Held → Held → IoFault → ℕ → Type 0
IsUnmade old new was is (faults.Script kind) line =
    let fault : FaultyLine = record { kind = kind; line = line } in
    (is ≡ was) × (IsNoScript old new fault ⊎ IsUnread old new fault)
IsUnmade old new was is faults.Memory line = is ≡ was
IsUnmade old new was is faults.Write line = (is.failures ≡ (was.failures + 1) % 2 ^ 64) × IsUnwritten old new
IsUnmade old new was is (faults.Book trouble) line = ⊥
IsUnmade old new was is (faults.Run fault) line = ⊥
IsUnmade old new was is (faults.Cert fault) line = ⊥
IsUnmade old new was is (faults.Refused fault) line = ⊥

-- the run was written; or the fault and the line say why not
abbrev pub Follows : Seen → Seen → Held → Held → Result Outcome Unmade → Type 0
Follows old new was is (Ok outcome) = IsMade old new was is outcome
Follows old new was is (Err unmade) = IsUnmade old new was is unmade.fault unmade.line

-- why no run was written, for a result that doesn't name the line
pub record IsUnmadeSomewhere (old new : Seen) (was is : Held) (fault : IoFault) : Type 0 where
  pub line : ℕ
  pub is_unmade : IsUnmade old new was is fault line

-- the same for a result that doesn't name the line
abbrev pub Simulates : Seen → Seen → Held → Held → Result Outcome IoFault → Type 0
Simulates old new was is (Ok outcome) = IsMade old new was is outcome
Simulates old new was is (Err fault) = IsUnmadeSomewhere old new was is fault
