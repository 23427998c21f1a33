-- The faults of calls from stream to stream, and the results of totem_verdicts with these faults.
use Rattle.std.specs.Prelude.{◌≡◌, ℕ, List, Result, Ok, Err, codes}
use Rattle.totem_evs.specs.declared.writing.WriteFault.{WriteFault}
use Rattle.totem_evs.specs.declared.writing.WriteFault.TheVariants as write_faults
use Rattle.totem_script.specs.declared.script_fault.ScriptFault.{ScriptFault}
use Rattle.totem_script.specs.declared.script_fault.ScriptFault.TheVariants as script_faults
use Rattle.totem_threads.specs.declared.fault.ThreadsFault.{ThreadsFault}
use Rattle.totem_threads.specs.declared.fault.ThreadsFault.TheVariants as threads_faults
use Rattle.totem_verdicts.specs.declared.outcome.Outcome.{Outcome}
use Rattle.totem_verdicts.specs.declared.verdict_fault.VerdictFault.{VerdictFault}
use Rattle.totem_verdicts.specs.declared.verdict_fault.VerdictFault.TheVariants as verdict_faults
use Rattle.totem_cluster.specs.declared.io_fault.IoFault.{IoFault}
use Rattle.totem_cluster.specs.declared.io_fault.IoFault.TheVariants as faults

-- the number and the name of a fault
abbrev pub io_number : IoFault → ℕ
io_number (faults.Run fault) = 1
io_number (faults.Cert fault) = 2
io_number (faults.Refused fault) = 3
io_number (faults.Script fault) = 4
io_number (faults.Book trouble) = 5
io_number faults.Memory = 6
io_number faults.Write = 7

abbrev pub io_name : IoFault → List ℕ
io_name (faults.Run fault) = codes "Run"
io_name (faults.Cert fault) = codes "Cert"
io_name (faults.Refused fault) = codes "Refused"
io_name (faults.Script fault) = codes "Script"
io_name (faults.Book trouble) = codes "Book"
io_name faults.Memory = codes "Memory"
io_name faults.Write = codes "Write"

-- a fault of a verdict among all faults
abbrev pub verdict_io_fault : VerdictFault → IoFault
verdict_io_fault (verdict_faults.Run fault) = faults.Run fault
verdict_io_fault (verdict_faults.Cert fault) = faults.Cert fault
verdict_io_fault (verdict_faults.Refused fault) = faults.Refused fault
verdict_io_fault verdict_faults.Memory = faults.Memory
verdict_io_fault verdict_faults.Write = faults.Write

-- a fault of writing a text among all faults
abbrev pub write_io_fault : WriteFault → IoFault
write_io_fault write_faults.Memory = faults.Memory
write_io_fault write_faults.Write = faults.Write

-- a fault of a script among all faults
abbrev pub script_io_fault : ScriptFault → IoFault
script_io_fault script_faults.Memory = faults.Memory
script_io_fault fault = faults.Script fault

-- a fault of a run in threads among all faults
abbrev pub threads_io_fault : ThreadsFault → IoFault
threads_io_fault threads_faults.Memory = faults.Memory
threads_io_fault (threads_faults.Book trouble) = faults.Book trouble

-- the same result, with its fault among all faults
abbrev pub among_all : Result Outcome VerdictFault → Result Outcome IoFault
among_all (Ok outcome) = Ok outcome
among_all (Err fault) = Err (verdict_io_fault fault)

-- the result is one for which the property holds, with its fault among all faults
abbrev pub Gives : (Result Outcome VerdictFault → Type 0) → Result Outcome IoFault → Type 0
Gives holds answer = (verdict : Result Outcome VerdictFault) × holds verdict × (answer ≡ among_all verdict)
