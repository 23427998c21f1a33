-- A script's lines (docs/PROTOCOL.md, "Scripts").
use Rattle.std.specs.Prelude.{ℕ, zero, suc, ◌==◌, List, [], ◌∷◌, if◌then◌else◌, Ok, Err}
use Rattle.totem_script.specs.declared.script_fault.ScriptFault.TheVariants.{Truncated, TooMany}
use Rattle.totem_script.specs.Judged.{Judged}

-- one byte more in front of the first line; if there is no line, the script ends in this one
abbrev pub longer_line : ℕ → List (Judged (List ℕ)) → List (Judged (List ℕ))
longer_line b [] = Err Truncated ∷ []
longer_line b (Ok text ∷ lines) = Ok (b ∷ text) ∷ lines
longer_line b (Err fault ∷ lines) = Err fault ∷ lines

-- the lines, of at most `room` bytes together, each without its end: the line that passes this size is TooMany, and a line that
-- the script's end cuts is Truncated
unfoldable pub lines_of : ℕ → List ℕ → List (Judged (List ℕ))
lines_of room [] = []
lines_of zero (b ∷ bytes) = Err TooMany ∷ []
lines_of (suc room) (b ∷ bytes) = if b == 10 then Ok [] ∷ lines_of room bytes else longer_line b (lines_of room bytes)
