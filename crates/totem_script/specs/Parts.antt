-- A text cut at a byte (docs/PROTOCOL.md, "Scripts").
use Rattle.std.specs.Prelude.{ℕ, ◌==◌, List, [], Option, None, Some}
use Rattle.std.specs.List.{slice_split}
use Rattle.std.specs.Borrow.{Bor}

-- the parts of a text between the places of this byte
abbrev pub parts : ℕ → List ℕ → List (List ℕ)
parts at text = slice_split (λ b. b == at) text

-- the parts of what is left
abbrev pub parts_left : ℕ → Option (Bor (List ℕ)) → List (List ℕ)
parts_left at None = []
parts_left at (Some text) = parts at text.now
