-- Readers of lists: what was read before, and what is still read.
use Rattle.totem_certificate.proofs.Common.{◌==◌, ◌≡◌, ℕ, suc, List, [], ◌∷◌, ◌++◌, Bool, true, false, cond, Option, Some, None, Ok, Err, refl, ap, Version, Seen, Parsed, Comes, ◌>>=◌, gives, same_left, Numbering, one_more, none_before, with_records, records_step, records_none}
use Rattle.totem_names.specs.declared.fault.TextFault.TheVariants as faults
use Rattle.totem_names.specs.Numbers.{number_at}
use Rattle.totem_evs.specs.Heads.{head_at, by_head}
use Rattle.totem_certificate.specs.CertGrammar.{cert_words, numbers_at, numbering}

-- ---- numbers

abbrev pub with_numbers : List ℕ → ℕ → List ℕ → Parsed (List ℕ)
with_numbers front room bytes = numbers_at room bytes >>= λ x. gives (front ++ x.0) x.1

pub numbers_step : (front : List ℕ) (room room' : ℕ) → room ≡ suc room' → (bytes : List ℕ) → with_numbers front room bytes ≡ (number_at 4294967295 bytes >>= λ n.
    cond (n.0.1 == 10) (gives (front ++ n.0.0 ∷ []) n.1) (cond (n.0.1 == 32) (with_numbers (front ++ n.0.0 ∷ []) room' n.1) (Err faults.Word)))
unfolding numbers_at
numbers_step front room room' e bytes = rw e (go (number_at 4294967295 bytes))
  where
    split : (b c : Bool) (n : ℕ) (after : List ℕ) →
        (cond b (gives (n ∷ []) after) (cond c (numbers_at room' after >>= λ others. gives (n ∷ others.0) others.1) (Err faults.Word)) >>= λ x. gives (front ++ x.0) x.1)
        ≡ cond b (gives (front ++ n ∷ []) after) (cond c (with_numbers (front ++ n ∷ []) room' after) (Err faults.Word))
    split true c n after = refl
    split false true n after = one_more front n (numbers_at room' after)
    split false false n after = refl

    go : (r : Parsed (ℕ × ℕ)) →
        ((r >>= λ n. cond (n.0.1 == 10) (gives (n.0.0 ∷ []) n.1) (cond (n.0.1 == 32) (numbers_at room' n.1 >>= λ others. gives (n.0.0 ∷ others.0) others.1) (Err faults.Word))) >>= λ x. gives (front ++ x.0) x.1)
        ≡ (r >>= λ n. cond (n.0.1 == 10) (gives (front ++ n.0.0 ∷ []) n.1) (cond (n.0.1 == 32) (with_numbers (front ++ n.0.0 ∷ []) room' n.1) (Err faults.Word)))
    go (Ok n) = split (n.0.1 == 10) (n.0.1 == 32) n.0.0 n.1
    go (Err f) = refl

pub numbers_none : (front : List ℕ) (room : ℕ) → room ≡ 0 → (bytes : List ℕ) → with_numbers front room bytes ≡ Err faults.TooMany
unfolding numbers_at
numbers_none front room e bytes = rw e refl

pub numbers_first : (room : ℕ) (bytes : List ℕ) → numbers_at room bytes ≡ with_numbers [] room bytes
numbers_first room bytes = none_before (numbers_at room bytes)

-- ---- lines

abbrev pub with_lines : Version → List Numbering → ℕ → ℕ → List ℕ → Parsed (List Numbering)
with_lines version front room last bytes = with_records cert_words (λ version p. numbers_at 1000000) numbering version front room last bytes

pub lines_step : (version : Version) (front : List Numbering) (room room' last : ℕ) (full : Bool) → room ≡ suc room' → (room' == 0) ≡ full → (bytes : List ℕ) → with_lines version front room last bytes ≡ (head_at cert_words version full last bytes >>= λ head.
    by_head head.0 (gives front head.1) (λ p. numbers_at 1000000 head.1 >>= λ numbers. with_lines version (front ++ numbering p numbers.0 ∷ []) room' p numbers.1))
lines_step version front room room' last full e same bytes = records_step cert_words (λ version p. numbers_at 1000000) numbering version front room room' last full e same bytes

pub lines_none : (version : Version) (front : List Numbering) (room last : ℕ) → room ≡ 0 → (bytes : List ℕ) → with_lines version front room last bytes ≡ Err faults.TooMany
lines_none version front room last e bytes = records_none cert_words (λ version p. numbers_at 1000000) numbering version front room last e bytes

-- ---- the steps of the reader of lines

-- after a line up to its numbers, or the last line, this is still read
abbrev pub behind : Version → List Numbering → ℕ → Option ℕ → List ℕ → Parsed (List Numbering)
behind version front room head more = by_head head (gives front more) (λ p. numbers_at 1000000 more >>= λ numbers. with_lines version (front ++ numbering p numbers.0 ∷ []) room p numbers.1)

-- the last line was read
pub ended : (version : Version) (a b : Seen) (parse : List ℕ → Parsed (List Numbering)) (front : List Numbering) (room : ℕ) (head : Option ℕ) → Comes a b parse (behind version front room head) → head ≡ None → Comes a b parse (gives front)
ended version a b parse front room head so_far e = same_left a b parse (behind version front room head) (gives front) so_far (λ more. ap (λ (h : Option ℕ). behind version front room h more) e)

-- a line was read up to its numbers
pub begun : (version : Version) (a b : Seen) (parse : List ℕ → Parsed (List Numbering)) (front : List Numbering) (room : ℕ) (head : Option ℕ) (p : ℕ) → Comes a b parse (behind version front room head) → head ≡ Some p
    → Comes a b parse (λ more. numbers_at 1000000 more >>= λ numbers. with_lines version (front ++ numbering p numbers.0 ∷ []) room p numbers.1)
begun version a b parse front room head p so_far e = same_left a b parse (behind version front room head) (behind version front room (Some p)) so_far (λ more. ap (λ (h : Option ℕ). behind version front room h more) e)
