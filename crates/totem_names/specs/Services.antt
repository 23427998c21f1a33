-- Services as text.
use Rattle.std.specs.Prelude.{◌≡◌, ℕ, List, ◌++◌, false, Ok, Err, ◌==◌, if◌then◌else◌}
use Rattle.totem_names.specs.declared.message.Service.{Service}
use Rattle.totem_names.specs.declared.message.Service.TheVariants.{Agreed, Safe}
use Rattle.totem_names.specs.declared.fault.TextFault.{TextFault}
use Rattle.totem_names.specs.declared.fault.TextFault.TheVariants.{Word}
use Rattle.totem_names.specs.Sources.{Parsed, FirstBreak, Steady, is_short, ◌>>=◌}
use Rattle.totem_names.specs.Numbers.{byte_at}

-- a service, by its letter
unfoldable pub service_at : List ℕ → Parsed Service
service_at bytes = do
  b ← byte_at bytes
  if b.0 == 97 then Ok (Agreed, b.1) else if b.0 == 115 then Ok (Safe, b.1) else Err Word

-- A parser and a spelling that fit each other, where the spelling itself shows where it ends: what is read is spelled
-- so; what is spelled so is read, whatever follows; a fault is that of the first byte that breaks a rule; and no result
-- changes with what follows.
pub record SpellsAlone {Y : Type 0} (parse : List ℕ → Parsed Y) (text : Y → List ℕ) : Type 0 where
  pub spelled : (name : Y) (bytes rest : List ℕ) → parse bytes ≡ Ok (name, rest) → bytes ≡ text name ++ rest
  pub read : (name : Y) (rest : List ℕ) → parse (text name ++ rest) ≡ Ok (name, rest)
  pub breaks : (bytes : List ℕ) (fault : TextFault) → is_short fault ≡ false → parse bytes ≡ Err fault → FirstBreak parse bytes fault
  pub steady : Steady parse
