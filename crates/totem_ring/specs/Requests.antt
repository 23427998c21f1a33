-- The numbers that a token asks for (docs/PROTOCOL.md, "The ring", the fourth step of a visit).
use Rattle.std.specs.Prelude.{ℕ, zero, suc, ◌+◌, ◌==◌, List, [], ◌∷◌, length, nat_lt, if◌then◌else◌}

-- a number inserted into an ascending list
abbrev pub with_number : List ℕ → ℕ → List ℕ
with_number [] n = n ∷ []
with_number (k ∷ ks) n = if nat_lt n k then n ∷ k ∷ ks else if n == k then k ∷ ks else k ∷ with_number ks n

-- these numbers are added one after another, until the list has 64
abbrev pub with_requests : List ℕ → List ℕ → List ℕ
with_requests rtr [] = rtr
with_requests rtr (n ∷ ns) = with_requests (if nat_lt (length rtr) 64 then with_number rtr n else rtr) ns

-- the numbers low + 1 to low + count
abbrev pub numbers_above : ℕ → ℕ → List ℕ
numbers_above low zero = []
numbers_above low (suc count) = (low + 1) ∷ numbers_above (low + 1) count
