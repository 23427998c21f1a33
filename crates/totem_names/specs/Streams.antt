-- What a call does to the bytes that a source has left, and to the failures that a stream counts.
use Rattle.std.specs.Prelude.{ℕ, ◌+◌, ◌%◌, ◌^◌, ◌≤◌, List, [], ◌∷◌, length, take, ⊤, None, Some, Ok, Err}
use Rattle.std.specs.declared.option.Option.{Option}
use Rattle.std.specs.declared.result.Result.{Result}
use Rattle.std.specs.Io.KnownBytes.{Consumes, IsAtEnd, Keeps}

-- a byte is the first of those left; no byte means that none are left
abbrev pub Gives : Option (List ℕ) → Option (List ℕ) → Option ℕ → Type 0
Gives old new None = IsAtEnd old × Keeps old new
Gives old new (Some b) = Consumes old new (b ∷ [])

-- the next n bytes of those left were taken
abbrev pub Skips : Option (List ℕ) → Option (List ℕ) → ℕ → Type 0
Skips None new n = ⊤
Skips (Some xs) new n = (n ≤ length xs) × Consumes (Some xs) new (take n xs)

-- the number of failures after a call, as a counter of 64 bits that wraps
abbrev pub failed_once : {A E : Type 0} → Result A E → ℕ → ℕ
failed_once (Ok a) n = n
failed_once (Err e) n = (n + 1) % 2 ^ 64
