-- A parser and a spelling that fit each other.
use Rattle.std.specs.Prelude.{◌≡◌, ℕ, List, ◌∷◌, ◌++◌, false, Ok, Err}
use Rattle.totem_names.specs.declared.fault.TextFault.{TextFault}
use Rattle.totem_names.specs.Sources.{Parsed, FirstBreak, Steady, is_short}
use Rattle.totem_names.specs.Numbers.{is_digit}

-- What is read is in range and is spelled so; what is in range and spelled so is read, whatever follows; a fault is
-- that of the first byte that breaks a rule; and no result changes with what follows.
pub record Spells {Y : Type 0} (parse : ℕ → List ℕ → Parsed Y) (text : Y → List ℕ) (IsNamed : Y → Type 0) : Type 0 where
  pub spelled : (end : ℕ) (name : Y) (bytes rest : List ℕ) → parse end bytes ≡ Ok (name, rest) → IsNamed name × (bytes ≡ text name ++ end ∷ rest)
  pub read : (end : ℕ) (name : Y) (rest : List ℕ) → is_digit end ≡ false → IsNamed name → parse end (text name ++ end ∷ rest) ≡ Ok (name, rest)
  pub breaks : (end : ℕ) (bytes : List ℕ) (fault : TextFault) → is_short fault ≡ false → parse end bytes ≡ Err fault → FirstBreak (parse end) bytes fault
  pub steady : (end : ℕ) → Steady (parse end)
