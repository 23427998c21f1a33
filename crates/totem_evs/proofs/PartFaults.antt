-- Where a fault of a run's text is: between logs and in a log.
use Rattle.std.proofs.Common.{arith}
use Rattle.totem_evs.proofs.Common.{◌==◌, codes, not, ◌&&◌, ◌↔◌, ◌≡◌, ◌≢◌, ℕ, inl, inr, List, [], ◌∷◌, ◌++◌, Bool, true, false, cond, Ok, Err, refl, sym, ap, ◌∙◌, Version, eqb-true, TextFault, Parsed, ◌>>=◌, taken, word_is, writes_quiet, ClosesWrong}
use Rattle.totem_names.specs.declared.fault.TextFault.TheVariants as faults
use Rattle.totem_names.specs.Numbers.{byte_at, word_at}
use Rattle.totem_evs.specs.declared.lines.Line.{Line}
use Rattle.totem_evs.specs.RunGrammar.{change_at, send_at, delivery_at, open_at, quiet_at, failed_at, fail_at, ail_at, failure_at, line_at}
use Rattle.totem_evs.proofs.OnlyFaults.{OfNames, OfEntries, fault_only, word_only, word_fault, change_only, send_only, delivery_only, fail_only}

-- ---- steps and tests that failed

pub bind_case : {A B P : Type 0} (r : Parsed A) (k : A × List ℕ → Parsed B) (f : TextFault) → (r >>= k) ≡ Err f → (r ≡ Err f → P) → ((x : A) (rest : List ℕ) → r ≡ Ok (x, rest) → k (x, rest) ≡ Err f → P) → P
bind_case (Ok x) k f e first then = then x.0 x.1 refl e
bind_case {A = A} (Err g) k f e first then = first (let same : g ≡ f = cc in ap (λ (h : TextFault). Err h) same)

pub byte_case : {A P : Type 0} (bytes : List ℕ) (k : ℕ × List ℕ → Parsed A) (f : TextFault) → f ≢ faults.Truncated → (byte_at bytes >>= k) ≡ Err f → ((b : ℕ) (rest : List ℕ) → bytes ≡ b ∷ rest → k (b, rest) ≡ Err f → P) → P
byte_case [] k f long e then = absurd (long (let same : faults.Truncated ≡ f = cc in sym same))
byte_case (b ∷ rest) k f long e then = then b rest refl e

pub byte_pick : {A P : Type 0} (b n : ℕ) (p q r : A) → cond (b == n) p q ≡ r → (b ≡ n → p ≡ r → P) → (q ≡ r → P) → P
byte_pick {A = A} {P = P} b n p q r e same other = go (b == n) refl e
  where
    go : (t : Bool) → (b == n) ≡ t → cond t p q ≡ r → P
    go true h k = same (eqb-true b n h) k
    go false h k = other k

-- the lines of a log, by their first letters
pub line_case : {P : Type 0} (version : Version) (full some failed : Bool) (bytes : List ℕ) (f : TextFault) → f ≢ faults.Truncated → f ≢ faults.Word → line_at version full some failed bytes ≡ Err f
    → ((rest : List ℕ) → bytes ≡ 99 ∷ rest → change_at version full rest ≡ Err f → P)
    → ((rest : List ℕ) → bytes ≡ 115 ∷ rest → send_at full rest ≡ Err f → P)
    → ((rest : List ℕ) → bytes ≡ 100 ∷ rest → delivery_at full rest ≡ Err f → P)
    → ((rest : List ℕ) → bytes ≡ 102 ∷ rest → failure_at full failed rest ≡ Err f → P)
    → ((rest : List ℕ) → bytes ≡ 111 ∷ rest → open_at some failed rest ≡ Err f → P)
    → ((rest : List ℕ) → bytes ≡ 113 ∷ rest → quiet_at (writes_quiet version) some failed rest ≡ Err f → P)
    → P
unfolding line_at
line_case {P = P} version full some failed bytes f long fits e change send delivery failure open' quiet =
    byte_case bytes (λ b. cond (b.0 == 99) (change_at version full b.1) (cond (b.0 == 115) (send_at full b.1) (cond (b.0 == 100) (delivery_at full b.1) (cond (b.0 == 102) (failure_at full failed b.1) (cond (b.0 == 111) (open_at some failed b.1) (cond (b.0 == 113) (quiet_at (writes_quiet version) some failed b.1) (Err faults.Word))))))) f long e (λ b rest is k.
    byte_pick b 99 (change_at version full rest) (cond (b == 115) (send_at full rest) (cond (b == 100) (delivery_at full rest) (cond (b == 102) (failure_at full failed rest) (cond (b == 111) (open_at some failed rest) (cond (b == 113) (quiet_at (writes_quiet version) some failed rest) (Err faults.Word)))))) (Err f) k (λ h. change rest (is ∙ ap (λ (c : ℕ). c ∷ rest) h)) (λ k.
    byte_pick b 115 (send_at full rest) (cond (b == 100) (delivery_at full rest) (cond (b == 102) (failure_at full failed rest) (cond (b == 111) (open_at some failed rest) (cond (b == 113) (quiet_at (writes_quiet version) some failed rest) (Err faults.Word))))) (Err f) k (λ h. send rest (is ∙ ap (λ (c : ℕ). c ∷ rest) h)) (λ k.
    byte_pick b 100 (delivery_at full rest) (cond (b == 102) (failure_at full failed rest) (cond (b == 111) (open_at some failed rest) (cond (b == 113) (quiet_at (writes_quiet version) some failed rest) (Err faults.Word)))) (Err f) k (λ h. delivery rest (is ∙ ap (λ (c : ℕ). c ∷ rest) h)) (λ k.
    byte_pick b 102 (failure_at full failed rest) (cond (b == 111) (open_at some failed rest) (cond (b == 113) (quiet_at (writes_quiet version) some failed rest) (Err faults.Word))) (Err f) k (λ h. failure rest (is ∙ ap (λ (c : ℕ). c ∷ rest) h)) (λ k.
    byte_pick b 111 (open_at some failed rest) (cond (b == 113) (quiet_at (writes_quiet version) some failed rest) (Err faults.Word)) (Err f) k (λ h. open' rest (is ∙ ap (λ (c : ℕ). c ∷ rest) h)) (λ k.
    byte_pick b 113 (quiet_at (writes_quiet version) some failed rest) (Err faults.Word) (Err f) k (λ h. quiet rest (is ∙ ap (λ (c : ℕ). c ∷ rest) h)) (λ k.
    absurd (fits (let same : faults.Word ≡ f = cc in sym same)))))))))

-- a failure, or the closing word of a log that ends in one, by the byte after `fail`
pub ail_case : {P : Type 0} (full failed : Bool) (bytes : List ℕ) (f : TextFault) → f ≢ faults.Truncated → f ≢ faults.Word → ail_at full failed bytes ≡ Err f
    → ((rest : List ℕ) → bytes ≡ codes "aile" ++ rest → failed_at failed rest ≡ Err f → P)
    → ((rest : List ℕ) → bytes ≡ codes "ail " ++ rest → fail_at full rest ≡ Err f → P)
    → P
unfolding ail_at
ail_case full failed bytes f long fits e closes fails =
    bind_case (word_at faults.Word (codes "ail") bytes) (λ w. byte_at w.1 >>= λ b. cond (b.0 == 101) (failed_at failed b.1) (cond (b.0 == 32) (fail_at full b.1) (Err faults.Word))) f e
    (λ k. absurd ((word_only (λ g. f ≡ g → ⊥) faults.Word (codes "ail") bytes fits long).fault f k refl))
    (λ w mid e1 k.
    let whole = word_is faults.Word (codes "ail") bytes mid w e1 in
    byte_case mid (λ b. cond (b.0 == 101) (failed_at failed b.1) (cond (b.0 == 32) (fail_at full b.1) (Err faults.Word))) f long k (λ b rest is k.
    byte_pick b 101 (failed_at failed rest) (cond (b == 32) (fail_at full rest) (Err faults.Word)) (Err f) k (λ h. closes rest (whole ∙ ap (λ (t : List ℕ). codes "ail" ++ t) (is ∙ ap (λ (c : ℕ). c ∷ rest) h))) (λ k.
    byte_pick b 32 (fail_at full rest) (Err faults.Word) (Err f) k (λ h. fails rest (whole ∙ ap (λ (t : List ℕ). codes "ail" ++ t) (is ∙ ap (λ (c : ℕ). c ∷ rest) h))) (λ k.
    absurd (fits (let same : faults.Word ≡ f = cc in sym same))))))

-- ---- End

abbrev pub NotEnd : TextFault → Type 0
NotEnd f = f ≢ faults.End

pub names_not_end : OfNames NotEnd
names_not_end = record { word = λ h. absurd cc; number = λ h. absurd cc; short = λ h. absurd cc }

entries_not_end : OfEntries NotEnd
entries_not_end = record { names = names_not_end; members = λ h. absurd cc; many = λ h. absurd cc }

-- the byte that only a closing word has
failed_end : (failed : Bool) (bytes : List ℕ) → failed_at failed bytes ≡ Err faults.End → failed ≡ false
unfolding failed_at
failed_end failed bytes e = grind (arith, word_fault)

open_end : (some failed : Bool) (bytes : List ℕ) → open_at some failed bytes ≡ Err faults.End → (some && not failed) ≡ false
unfolding open_at
open_end some failed bytes e = grind (arith, word_fault)

quiet_end : (written some failed : Bool) (bytes : List ℕ) → quiet_at written some failed bytes ≡ Err faults.End → (written ≡ true) × ((some && not failed) ≡ false)
unfolding quiet_at
quiet_end written some failed bytes e = grind (arith, word_fault)

ail_end : (written full some failed : Bool) (bytes rest : List ℕ) → (full && not failed) ≡ false → bytes ≡ 102 ∷ rest → ail_at full failed rest ≡ Err faults.End → ClosesWrong written full some failed bytes
ail_end written full some failed bytes rest room is e =
    ail_case full failed rest faults.End (λ h. absurd cc) (λ h. absurd cc) e
    (λ more behind k. let ends = failed_end failed more k in let may : full ≡ false = grind arith in inr (inr (more, is ∙ ap (λ (t : List ℕ). 102 ∷ t) behind, may, ends)))
    (λ more behind k. absurd ((fail_only NotEnd full more names_not_end (λ h. absurd cc)).fault faults.End k refl))

failure_end : (written full some failed : Bool) (bytes rest : List ℕ) → bytes ≡ 102 ∷ rest → failure_at full failed rest ≡ Err faults.End → ClosesWrong written full some failed bytes
unfolding failure_at
failure_end written full some failed bytes rest is e = elim (taken (full && not failed) (Err faults.TooMany) (ail_at full failed rest) (Err faults.End) e) [
  | inl x ↦ absurd ((fault_only {A = Line} NotEnd faults.TooMany (λ h. absurd cc)).fault faults.End x.1 refl)
  | inr x ↦ ail_end written full some failed bytes rest x.0 is x.1
]

line_end : (version : Version) (full some failed : Bool) (bytes : List ℕ) → line_at version full some failed bytes ≡ Err faults.End → ClosesWrong (writes_quiet version) full some failed bytes
line_end version full some failed bytes e =
    line_case version full some failed bytes faults.End (λ h. absurd cc) (λ h. absurd cc) e
    (λ rest is k. absurd ((change_only version NotEnd full rest entries_not_end).fault faults.End k refl))
    (λ rest is k. absurd ((send_only NotEnd full rest names_not_end (λ h. absurd cc)).fault faults.End k refl))
    (λ rest is k. absurd ((delivery_only NotEnd full rest names_not_end (λ h. absurd cc)).fault faults.End k refl))
    (λ rest is k. failure_end (writes_quiet version) full some failed bytes rest is k)
    (λ rest is k. inl (rest, is, open_end some failed rest k))
    (λ rest is k. let wrong = quiet_end (writes_quiet version) some failed rest k in inr (inl (rest, is, wrong.0, wrong.1)))

end_line : (version : Version) (full some failed : Bool) (bytes : List ℕ) → ClosesWrong (writes_quiet version) full some failed bytes → line_at version full some failed bytes ≡ Err faults.End
unfolding line_at open_at quiet_at failure_at ail_at failed_at word_at
end_line version full some failed bytes h = grind arith

pub end_exactly : (version : Version) (full some failed : Bool) (bytes : List ℕ) → (line_at version full some failed bytes ≡ Err faults.End) ↔ ClosesWrong (writes_quiet version) full some failed bytes
end_exactly version full some failed bytes = (line_end version full some failed bytes, end_line version full some failed bytes)
