-- Numbers and ascending lines that grow at their end.
use Rattle.totem_certificate.proofs.Common.{All, AllPairs, ℕ, ◌<◌, ◌≤◌, List, [], ◌∷◌, ◌++◌, length, arith, All-push, Version, Numbering, IsNumber, IsNumbers, IsLineIn, IsBelowLine}
use Rattle.std.proofs.lemmas.List.Quantifiers.{all_pairs_push}

-- each is the number of an entry
pub record Numbered (numbers : List ℕ) : Type 0 where
  pub each : All IsNumber numbers

pub numbered_none : Numbered []
numbered_none = record { each = λ k d within. absurd (omega arith) }

pub numbered_more : (numbers : List ℕ) (n : ℕ) → Numbered numbers → IsNumber n → Numbered (numbers ++ n ∷ [])
numbered_more numbers n h is = record { each = All-push IsNumber numbers n h.each is }

-- the numbers are those of a line
pub are_numbered : (numbers : List ℕ) → Numbered numbers → 0 < length numbers → length numbers ≤ 1000000 → IsNumbers numbers
are_numbered numbers h some few = record { some = some; few = few; each = h.each }

-- lines that are ascending, up to the last one
pub record RisingLines (version : Version) (lines : List Numbering) (last : ℕ) : Type 0 where
  pub below : All (λ l. l.proc ≤ last) lines
  pub rising : AllPairs IsBelowLine lines
  pub each : All (IsLineIn version) lines

pub rising_more : (version : Version) (lines : List Numbering) (last : ℕ) (l : Numbering) → RisingLines version lines last → last < l.proc → IsLineIn version l → RisingLines version (lines ++ l ∷ []) l.proc
rising_more version lines last l h lt is = record {
  below = All-push (λ b. b.proc ≤ l.proc) lines l (λ k d within. omega (arith, h.below k d within)) (omega arith);
  rising = all_pairs_push IsBelowLine lines l h.rising (λ k d within. omega (arith, h.below k d within));
  each = All-push (IsLineIn version) lines l h.each is;
}
