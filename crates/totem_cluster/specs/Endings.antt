-- How the program ends: its status, and what it prints (docs/PROGRAM.md).
use Rattle.std.specs.Prelude.{◌≡◌, ℕ, List, ◌++◌, codes, Ok, Err}
use Rattle.clap.specs.declared.error.kind.ErrorKind.{ErrorKind}
use Rattle.totem_names.specs.Sources.{Seen}
use Rattle.totem_names.specs.Writing.{Held}
use Rattle.totem_evs.specs.RunText.{line}
use Rattle.totem_script.specs.declared.script_fault.ScriptFault.{ScriptFault}
use Rattle.totem_script.specs.declared.script_fault.ScriptFault.TheVariants as script_faults
use Rattle.totem_script.specs.ScriptFaults.{fault_number as script_fault_number, fault_name as script_fault_name}
use Rattle.totem_threads.specs.Faults.{trouble_number, trouble_name}
use Rattle.totem_verdicts.specs.declared.outcome.Outcome.{Outcome}
use Rattle.totem_verdicts.specs.declared.words.Asked.{Asked}
use Rattle.totem_verdicts.specs.Endings.{Tells, Judges, Answers, outcome_status, refusal_text, run_line, cert_line, check_line, memory_line, write_line, run_status, cert_status}
use Rattle.totem_cluster.specs.declared.weaving.Weave.{Weave}
use Rattle.totem_cluster.specs.declared.io_fault.IoFault.{IoFault}
use Rattle.totem_cluster.specs.declared.io_fault.IoFault.TheVariants as faults
use Rattle.totem_cluster.specs.SimIo.{Simulates}
use Rattle.totem_cluster.specs.RunIo.{Records}
use Rattle.totem_cluster.specs.WeaveIo.{WeavesRun, weave_status}

-- ---- faults

abbrev pub script_line : ScriptFault → List ℕ
script_line script_faults.Read = line (codes "totem: read failed")
script_line fault = line (refusal_text (codes "totem: script refused: ") (script_fault_number fault) (script_fault_name fault))

-- the line that reports a fault
abbrev pub fault_line : IoFault → List ℕ
fault_line (faults.Run fault) = run_line fault
fault_line (faults.Cert fault) = cert_line fault
fault_line (faults.Refused fault) = check_line fault
fault_line (faults.Script fault) = script_line fault
fault_line (faults.Book trouble) = line (refusal_text (codes "totem: book refused: ") (trouble_number trouble) (trouble_name trouble))
fault_line faults.Memory = memory_line
fault_line faults.Write = write_line

abbrev pub script_status : ScriptFault → ℕ
script_status script_faults.Read = 4
script_status fault = 2

-- the status of a fault
abbrev pub fault_status : IoFault → ℕ
fault_status (faults.Run fault) = run_status fault
fault_status (faults.Cert fault) = cert_status fault
fault_status (faults.Refused fault) = 2
fault_status (faults.Script fault) = script_status fault
fault_status (faults.Book trouble) = 2
fault_status faults.Memory = 3
fault_status faults.Write = 4

-- ---- the program

-- the result of a run of nodes in threads, and the status
pub data Plays (was is quiet said : Held) : ℕ → Type 0 where
  -- they ran, and their run was written
  recorded : (nodes : ℕ) (outcome : Outcome) → Records nodes was is (Ok outcome) → said ≡ quiet → Plays was is quiet said (outcome_status outcome)
  -- it was not, and the fault is reported
  unrecorded : (nodes : ℕ) (fault : IoFault) → Records nodes was is (Err fault) → Tells quiet said (fault_line fault) → Plays was is quiet said (fault_status fault)
  -- they ran, and their ring was woven
  woven : (nodes : ℕ) (weave : Weave) → WeavesRun nodes was is (Ok weave) → said ≡ quiet → Plays was is quiet said (weave_status weave)
  -- it was not, and the fault is reported
  unwoven : (nodes : ℕ) (fault : IoFault) → WeavesRun nodes was is (Err fault) → Tells quiet said (fault_line fault) → Plays was is quiet said (fault_status fault)
  -- the numbers don't fit together, which is reported
  unfit : (text : List ℕ) → is ≡ was → Tells quiet said text → Plays was is quiet said 64

-- what is printed for a fault: its line and an explanation, or that memory for the explanation was refused; and the status
pub data Points (fault : IoFault) (quiet said : Held) : ℕ → Type 0 where
  pointed : (words : List ℕ) → Tells quiet said (fault_line fault ++ words) → Points fault quiet said (fault_status fault)
  wordless : Tells quiet said memory_line → Points fault quiet said 3

-- what was read, what was written to the output and the errors, and the status
pub data Ends (old new : Seen) (was is quiet said : Held) : ℕ → Type 0 where
  -- the arguments ask for a verdict; the contract does not say which arguments ask for which
  asked : (what : Asked) (status : ℕ) → Judges what old new was is quiet said status → Ends old new was is quiet said status
  -- a script was read, and its run written
  simulated : (outcome : Outcome) → Simulates old new was is (Ok outcome) → said ≡ quiet → Ends old new was is quiet said (outcome_status outcome)
  -- it was not, and the fault is reported
  unsimulated : (fault : IoFault) → Simulates old new was is (Err fault) → Tells quiet said (fault_line fault) → Ends old new was is quiet said (fault_status fault)
  -- it makes no run, and the fault is reported with an explanation
  unfollowed : (fault : IoFault) (status : ℕ) → Simulates old new was is (Err fault) → Points fault quiet said status → Ends old new was is quiet said status
  -- nothing was read, and a run of nodes in threads was asked for
  played : (status : ℕ) → new ≡ old → Plays was is quiet said status → Ends old new was is quiet said status
  -- nothing was read, and the arguments are answered; the contract says neither with which text nor for which arguments
  answered : (kind : ErrorKind) (status : ℕ) → new ≡ old → Answers kind was is quiet said status → Ends old new was is quiet said status
