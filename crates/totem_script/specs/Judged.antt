-- The result of a part of a script, or what is wrong with it (docs/PROTOCOL.md, "Scripts").
use Rattle.std.specs.Prelude.{◌≡◌, ◌≢◌, Result, Ok, Err}
use Rattle.totem_script.specs.declared.script_fault.ScriptFault.{ScriptFault}
use Rattle.totem_script.specs.declared.script_fault.ScriptFault.TheVariants.{Memory}
use Rattle.totem_script.specs.ScriptFaults.{of_line}
use Rattle.totem_script.specs.Parsed.{Parsed}

abbrev pub Judged : Type 0 → Type 0
Judged A = Result A ScriptFault

-- a line's command, or the line's fault as the script's
abbrev pub by_line : {A : Type 0} → Parsed A → Judged A
by_line (Ok x) = Ok x
by_line (Err fault) = Err (of_line fault)

-- this fault is the written one, unless it is out of memory
pub record Fails {A : Type 0} (fault : ScriptFault) (written : Judged A) : Type 0 where
  pub is : fault ≢ Memory → written ≡ Err fault

-- the answer is the written one, unless it is out of memory
abbrev pub Gives : {A : Type 0} → Judged A → Judged A → Type 0
Gives (Ok x) written = written ≡ Ok x
Gives (Err fault) written = Fails fault written

-- the same for a call that changes a value to the written one
abbrev pub Becomes : {A B : Type 0} → Judged B → A → Judged A → Type 0
Becomes (Ok done) new written = written ≡ Ok new
Becomes (Err fault) new written = Fails fault written
