-- Numbers and names that are a whole word (docs/PROTOCOL.md, "Scripts").
use Rattle.std.specs.Prelude.{ℕ, ◌+◌, ◌-◌, ◌*◌, ◌==◌, ◌&&◌, not, List, [], ◌∷◌, Bool, if◌then◌else◌, nat_le, Ok, Err}
use Rattle.totem_names.specs.Names.{RingName}
use Rattle.totem_names.specs.Numbers.{is_digit}
use Rattle.totem_script.specs.declared.fault.LineFault.TheVariants.{Word, Number}
use Rattle.totem_names.specs.Sources.{◌>>=◌}
use Rattle.totem_script.specs.Parsed.{Parsed}
use Rattle.totem_script.specs.Parts.{parts}

-- `1` to `9`
abbrev pub begins_number : ℕ → Bool
begins_number b = is_digit b && not (b == 48)

-- the further digits of a number of at most max whose digits so far give n
unfoldable pub digits_in : ℕ → ℕ → List ℕ → Parsed ℕ
digits_in max n [] = Ok n
digits_in max n (b ∷ bytes) =
    if is_digit b
    then (if nat_le (10 * n + (b - 48)) max then digits_in max (10 * n + (b - 48)) bytes else Err Number)
    else Err Word

-- the word is a number from 1 to max, without leading zeros
unfoldable pub number_in : ℕ → List ℕ → Parsed ℕ
number_in max [] = Err Number
number_in max (b ∷ bytes) = if begins_number b then digits_in max (b - 48) bytes else Err Number

-- the word is a process
abbrev pub process_in : List ℕ → Parsed ℕ
process_in word = number_in 65535 word

-- no word is left
abbrev pub only : {A : Type 0} → A → List (List ℕ) → Parsed A
only x [] = Ok x
only x (p ∷ ps) = Err Word

-- a ring's representative, after the dot
abbrev pub ring_by : ℕ → List (List ℕ) → Parsed RingName
ring_by seq [] = Err Word
ring_by seq (p ∷ ps) = do
  rep ← process_in p
  only (record { seq = seq; rep = rep }) ps

-- the parts of a ring: its number and its representative
abbrev pub ring_of : List (List ℕ) → Parsed RingName
ring_of [] = Err Word
ring_of (p ∷ ps) = do
  seq ← number_in 4294967295 p
  ring_by seq ps

-- the word is a ring: its number, a dot, its representative
abbrev pub ring_in : List ℕ → Parsed RingName
ring_in word = ring_of (parts 46 word)
