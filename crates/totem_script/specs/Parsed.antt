-- What a line's word says, or the fault of its first unexpected byte.
use Rattle.std.specs.Prelude.{◌≡◌, ◌≢◌, Result, Ok, Err}
use Rattle.totem_script.specs.declared.fault.LineFault.{LineFault}
use Rattle.totem_script.specs.declared.fault.LineFault.TheVariants.{Memory}

abbrev pub Parsed : Type 0 → Type 0
Parsed A = Result A LineFault

-- this fault is the parser's, unless it is out of memory
pub record Fails {A : Type 0} (fault : LineFault) (parsed : Parsed A) : Type 0 where
  pub is : fault ≢ Memory → parsed ≡ Err fault

-- the answer is what the parser gives, unless it is out of memory
abbrev pub Gives : {A : Type 0} → Parsed A → Parsed A → Type 0
Gives (Ok x) parsed = parsed ≡ Ok x
Gives (Err fault) parsed = Fails fault parsed
