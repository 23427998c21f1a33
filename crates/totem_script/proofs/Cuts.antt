-- Where a text is cut.
use Rattle.totem_script.proofs.Common.{◌≡◌, ◌≢◌, ℕ, ◌<◌, ◌+◌, ◌==◌, List, [], ◌∷◌, ◌++◌, length, get_or, take, drop, Bool, true, false, Option, None, Some, IsTrue, is_some, not, All, refl, sym, ap, ◌∙◌, arith, take-append-drop, drop_more, get_or-take, length-take-le, eq-eqb, ne_eqb, All-from_get_or}
use Rattle.std.proofs.lemmas.List.Splits.{slice_split_none, slice_split_at, length-slice_split}
use Rattle.std.specs.Borrow.{Bor}
use Rattle.totem_script.specs.Parts.{parts, parts_left}

-- a list is its front, the byte at i and the rest
split_around : (xs : List ℕ) (i s : ℕ) → i < length xs → get_or xs i 0 ≡ s → xs ≡ take i xs ++ s ∷ drop (i + 1) xs
split_around xs i s inside here = sym (take-append-drop i xs) ∙ ap (λ l. take i xs ++ l) (drop_more xs i 0 inside ∙ ap (λ b. b ∷ drop (i + 1) xs) here)

lacking : (at : ℕ) (xs : List ℕ) (d : ℕ) → ((k : ℕ) → k < length xs → get_or xs k d ≢ at) → All (λ b. (b == at) ≡ false) xs
lacking at xs d lacks = All-from_get_or (λ b. (b == at) ≡ false) xs d (λ k below. ne_eqb (get_or xs k d) at (lacks k below))

-- the first part ends at the first such byte
pub cut_found : (at : ℕ) (xs : List ℕ) (i : ℕ) → i < length xs → get_or xs i 0 ≡ at → ((k : ℕ) → k < i → get_or xs k 0 ≢ at)
    → parts at xs ≡ take i xs ∷ parts at (drop (i + 1) xs)
cut_found at xs i inside here before =
    let none : All (λ b. (b == at) ≡ false) (take i xs) = lacking at (take i xs) 0 (λ k below. let less : k < i = omega (arith, length-take-le i xs) in rw (get_or-take i xs k 0 less) (before k less)) in
    ap (parts at) (split_around xs i at inside here) ∙ slice_split_at (λ b. b == at) (take i xs) at (drop (i + 1) xs) none (eq-eqb at at refl)

-- without such a byte the text is one part
pub cut_nowhere : (at : ℕ) (xs : List ℕ) → ((k : ℕ) → k < length xs → get_or xs k 0 ≢ at) → parts at xs ≡ xs ∷ []
cut_nowhere at xs lacks = slice_split_none (λ b. b == at) xs (lacking at xs 0 lacks)

-- a text has a part
some_part : (at : ℕ) (xs : List ℕ) → parts at xs ≢ []
some_part at xs is = let many = ap length is in omega (arith, many, length-slice_split (λ b. b == at) xs)

-- the text before a cut and the text after it are the parts that were left
pub goes_on : (at : ℕ) (rest : Option (Bor (List ℕ))) (text : Bor (List ℕ)) (whole : List (List ℕ)) (p : List ℕ) (ps : List (List ℕ))
    → parts_left at rest ≡ whole → rest ≡ Some text → parts at text.now ≡ p ∷ ps → whole ≡ p ∷ ps
goes_on at rest text whole p ps view is split = sym view ∙ ap (parts_left at) is ∙ split

-- no part is left just where no text is
pub shows_none : (at : ℕ) (rest : Option (Bor (List ℕ))) (whole : List (List ℕ)) (b : Bool) → parts_left at rest ≡ whole → is_some rest ≡ not b
    → (IsTrue b → whole ≡ []) × (whole ≡ [] → IsTrue b)
shows_none at None whole true view is = ((λ h. sym view), (λ h. refl))
shows_none at None whole false view is = absurd (cc)
shows_none at (Some text) whole true view is = absurd (cc)
shows_none at (Some text) whole false view is = ((λ h. absurd (cc)), (λ h. absurd (some_part at text.now (view ∙ h))))
