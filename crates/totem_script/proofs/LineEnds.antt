-- Where a script's lines end.
use Rattle.totem_script.proofs.Common.{◌≡◌, ◌≢◌, ℕ, zero, suc, ◌<◌, ◌≤◌, ◌+◌, ◌-◌, List, [], ◌∷◌, length, get_or, take, drop, Ok, Err, refl, sym, ap, ◌∙◌, arith, eq-eqb, ne_eqb, get_or-take, Judged}
use Rattle.totem_script.specs.declared.script_fault.ScriptFault.TheVariants.{Truncated, TooMany}
use Rattle.totem_script.specs.Lines.{longer_line, lines_of}

-- no line ends before i
abbrev pub NoneBefore : List ℕ → ℕ → Type 0
NoneBefore xs i = (k : ℕ) → k < i → get_or xs k 0 ≢ 10

below : (b : ℕ) (xs : List ℕ) (i : ℕ) → NoneBefore (b ∷ xs) (suc i) → NoneBefore xs i
below b xs i none k less = none (suc k) (omega arith)

no_end : (room b : ℕ) (xs : List ℕ) → b ≢ 10 → lines_of (suc room) (b ∷ xs) ≡ longer_line b (lines_of room xs)
unfolding lines_of
no_end room b xs other = rw (ne_eqb b 10 other)

one_end : (room b : ℕ) (xs : List ℕ) → b ≡ 10 → lines_of (suc room) (b ∷ xs) ≡ Ok [] ∷ lines_of room xs
unfolding lines_of
one_end room b xs is = rw (eq-eqb b 10 is)

one_less : (room i : ℕ) → suc room - suc i ≡ room - i
one_less room i = omega arith

-- a line ends at i
ends_at : (room : ℕ) (xs : List ℕ) (i : ℕ) → i < length xs → i < room → get_or xs i 0 ≡ 10 → NoneBefore xs i
    → lines_of room xs ≡ Ok (take i xs) ∷ lines_of (room - suc i) (drop (suc i) xs)
ends_at room [] i inside fits here none = absurd (omega arith)
ends_at zero (b ∷ xs) i inside fits here none = absurd (omega arith)
ends_at (suc room) (b ∷ xs) zero inside fits here none =
    let less : suc room - 1 ≡ room = omega arith in
    rw less (one_end room b xs here)
ends_at (suc room) (b ∷ xs) (suc i) inside fits here none =
    let rest = ends_at room xs i (omega arith) (omega arith) here (below b xs i none) in
    let other : b ≢ 10 = none 0 (omega arith) in
    rw (one_less room (suc i)) (no_end room b xs other ∙ ap (longer_line b) rest)

-- no line ends within the bytes that are allowed
no_room : (room : ℕ) (xs : List ℕ) → room < length xs → NoneBefore xs room → lines_of room xs ≡ Err TooMany ∷ []
unfolding lines_of
no_room room [] more none = absurd (omega arith)
no_room zero (b ∷ xs) more none = refl
no_room (suc room) (b ∷ xs) more none =
    no_end room b xs (none 0 (omega arith)) ∙ ap (longer_line b) (no_room room xs (omega arith) (below b xs room none))

-- the script ends in its line
cut_short : (room : ℕ) (xs : List ℕ) → 0 < length xs → length xs ≤ room → NoneBefore xs (length xs) → lines_of room xs ≡ Err Truncated ∷ []
unfolding lines_of
cut_short room [] some fits none = absurd (omega arith)
cut_short zero (b ∷ xs) some fits none = absurd (omega arith)
cut_short (suc room) (b ∷ []) some fits none = no_end room b [] (none 0 (omega arith))
cut_short (suc room) (b ∷ c ∷ xs) some fits none =
    no_end room b (c ∷ xs) (none 0 (omega arith))
    ∙ ap (longer_line b) (cut_short room (c ∷ xs) (omega arith) (omega arith) (below b (c ∷ xs) (length (c ∷ xs)) none))

-- the same, of what is looked through
module _ (room within : ℕ) (xs : List ℕ) (inside : within ≤ length xs) where
  look : (k : ℕ) → k < within → get_or (take within xs) k 0 ≡ get_or xs k 0
  look k less = get_or-take within xs k 0 less

  seen : (i : ℕ) → i ≤ within → NoneBefore (take within xs) i → NoneBefore xs i
  seen i fits none k less = let same = look k (omega arith) in rw (← same) (none k less)

  pub line_ends : (i : ℕ) → within ≤ room → i < within → get_or (take within xs) i 0 ≡ 10 → NoneBefore (take within xs) i
      → lines_of room xs ≡ Ok (take i xs) ∷ lines_of (room - (i + 1)) (drop (i + 1) xs)
  line_ends i fits less here none =
      let one : i + 1 ≡ suc i = omega arith in
      rw one (ends_at room xs i (omega arith) (omega arith) (sym (look i less) ∙ here) (seen i (omega arith) none))

  pub too_long : within ≡ room → within < length xs → NoneBefore (take within xs) within → lines_of room xs ≡ Err TooMany ∷ []
  too_long is more none = no_room room xs (omega arith) (rw (← is) (seen within (omega arith) none))

  pub is_cut : 0 < length xs → within ≡ length xs → within ≤ room → NoneBefore (take within xs) within → lines_of room xs ≡ Err Truncated ∷ []
  is_cut some is fits none = cut_short room xs some (omega arith) (rw (← is) (seen within (omega arith) none))

pub no_line : (room : ℕ) (xs : List ℕ) → length xs ≡ 0 → lines_of room xs ≡ []
unfolding lines_of
no_line room [] is = refl
no_line room (b ∷ xs) is = absurd (omega arith)

longer : (b : ℕ) (lines : List (Judged (List ℕ))) → longer_line b lines ≢ []
longer b [] is = cc
longer b (Ok text ∷ lines) is = cc
longer b (Err fault ∷ lines) is = cc

pub some_line : (room : ℕ) (xs : List ℕ) → lines_of room xs ≡ [] → length xs ≡ 0
unfolding lines_of
some_line room [] is = refl
some_line zero (b ∷ xs) is = cc
some_line (suc room) (b ∷ xs) is = grind (arith, longer b (lines_of room xs))
