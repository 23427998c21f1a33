-- Bytes, words and numbers of a text.
use Rattle.std.specs.Prelude.{ℕ, ◌+◌, ◌-◌, ◌*◌, List, [], ◌∷◌, Ok, Err, Bool, ◌&&◌, nat_le, ◌==◌, if◌then◌else◌}
use Rattle.totem_names.specs.declared.fault.TextFault.{TextFault}
use Rattle.totem_names.specs.declared.fault.TextFault.TheVariants.{Word, Number, Truncated}
use Rattle.totem_names.specs.Sources.{Parsed, ◌>>=◌}

-- the next byte, or `Truncated` if there is none
abbrev pub byte_at : List ℕ → Parsed ℕ
byte_at [] = Err Truncated
byte_at (b ∷ bytes) = Ok (b, bytes)

-- a word, or the given fault at the first byte that differs from it
unfoldable pub word_at : TextFault → List ℕ → List ℕ → Parsed (Unit {0})
word_at fault [] bytes = Ok (tt, bytes)
word_at fault (w ∷ word) bytes = do
  b ← byte_at bytes
  if b.0 == w then word_at fault word b.1 else Err fault

-- `0` to `9`
abbrev pub is_digit : ℕ → Bool
is_digit b = nat_le 48 b && nat_le b 57

-- the further digits of a number of at most max whose digits so far give n, and the byte after it
unfoldable pub digits_at : ℕ → ℕ → List ℕ → Parsed (ℕ × ℕ)
digits_at max n [] = Err Truncated
digits_at max n (b ∷ bytes) =
    if is_digit b
    then (if nat_le (10 * n + (b - 48)) max then digits_at max (10 * n + (b - 48)) bytes else Err Number)
    else Ok ((n, b), bytes)

-- a number from 1 to max, without leading zeros, and the byte after it
unfoldable pub number_at : ℕ → List ℕ → Parsed (ℕ × ℕ)
number_at max [] = Err Truncated
number_at max (b ∷ bytes) = if is_digit b then (if b == 48 then Err Number else digits_at max (b - 48) bytes) else Err Number

-- a number with this byte after it
unfoldable pub number_to : ℕ → ℕ → List ℕ → Parsed ℕ
number_to max end bytes = do
  n ← number_at max bytes
  if n.0.1 == end then Ok (n.0.0, n.1) else Err Word

-- a process, and the byte end after it
abbrev pub proc_at : ℕ → List ℕ → Parsed ℕ
proc_at end bytes = number_to 65535 end bytes
