-- What is wrong with a script: numbers and names (docs/PROTOCOL.md, "Scripts").
use Rattle.std.specs.Prelude.{ℕ, List, codes}
use Rattle.totem_script.specs.declared.fault.LineFault.{LineFault}
use Rattle.totem_script.specs.declared.fault.LineFault.TheVariants as line
use Rattle.totem_script.specs.declared.script_fault.ScriptFault.{ScriptFault}
use Rattle.totem_script.specs.declared.script_fault.ScriptFault.TheVariants.{Header, Word, Number, Order, Members, Place, End, Truncated, TooMany, Read, Memory}

abbrev pub fault_number : ScriptFault → ℕ
fault_number Header = 1
fault_number Word = 2
fault_number Number = 3
fault_number Order = 4
fault_number Members = 5
fault_number Place = 6
fault_number End = 7
fault_number Truncated = 8
fault_number TooMany = 9
fault_number Read = 10
fault_number Memory = 11

abbrev pub fault_name : ScriptFault → List ℕ
fault_name Header = codes "Header"
fault_name Word = codes "Word"
fault_name Number = codes "Number"
fault_name Order = codes "Order"
fault_name Members = codes "Members"
fault_name Place = codes "Place"
fault_name End = codes "End"
fault_name Truncated = codes "Truncated"
fault_name TooMany = codes "TooMany"
fault_name Read = codes "Read"
fault_name Memory = codes "Memory"

-- the fault of a line that is not a command
abbrev pub of_line : LineFault → ScriptFault
of_line line.Word = Word
of_line line.Number = Number
of_line line.Memory = Memory
