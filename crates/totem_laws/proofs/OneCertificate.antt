-- A run has at most one certificate, line by line.
use Rattle.totem_cert.proofs.Common.{◌≡◌, ℕ, suc, ◌<◌, List, [], ◌∷◌, length, slice_get, Some, true, false, refl, sym, ◌∙◌, ap, arith, rules, ◌==◌, Log, Numbering, numbers_of, Matches, Rising, Rising-tail, in_order}
use Rattle.totem_cert.proofs.One.{one}
use Rattle.totem_laws.specs.OneAnswer.{CertificatesAreOne}

-- two lists with the same element at each index are equal
same_list : (xs ys : List ℕ) → ((i : ℕ) → slice_get xs i ≡ slice_get ys i) → xs ≡ ys
same_list [] [] each = refl
same_list [] (y ∷ ys) each = absurd (let h = each 0 in cc)
same_list (x ∷ xs) [] each = absurd (let h = each 0 in cc)
same_list (x ∷ xs) (y ∷ ys) each =
    let head : x ≡ y = (let h = each 0 in cc) in
    let rest : xs ≡ ys = same_list xs ys (λ i. each (suc i)) in
    rw (head, rest) refl

-- the lines of the processes of the run have the same numbers
pub record SameNumbers (run : List Log) (a b : List Numbering) : Type 0 where
  pub each : (k : ℕ) (log : Log) → slice_get run k ≡ Some log → numbers_of a log.proc ≡ numbers_of b log.proc

head_of : (x : Numbering) (lines : List Numbering) (p : ℕ) → x.proc ≡ p → numbers_of (x ∷ lines) p ≡ x.numbers
head_of x lines p same = let test : (x.proc == p) ≡ true = rw same (search rules) in rw test refl

tail_of : (x : Numbering) (lines : List Numbering) (p : ℕ) → x.proc < p → numbers_of (x ∷ lines) p ≡ numbers_of lines p
tail_of x lines p less = let test : (x.proc == p) ≡ false = search rules in rw test refl

same_line : (x y : Numbering) → x.proc ≡ y.proc → x.numbers ≡ y.numbers → x ≡ y
same_line x y e f = ap (λ (p : ℕ). line p x.numbers) e ∙ ap (line y.proc) f
  where
    line : ℕ → List ℕ → Numbering
    line p numbers = record { proc = p; numbers = numbers }

heads : (run : List Log) (log : Log) (x : Numbering) (lines : List Numbering) → Matches (log ∷ run) (x ∷ lines) → (log.proc ≡ x.proc) × Matches run lines
heads run log x lines h =
    let both : ◌≡◌ {A = ℕ × ℕ} (log.proc, length log.entries) (x.proc, length x.numbers) = cc in
    (ap (λ (v : ℕ × ℕ). v.0) both, cc)

one_lines : (run : List Log) (a b : List Numbering) → Rising run → Matches run a → Matches run b → SameNumbers run a b → a ≡ b
one_lines [] [] [] rising is also same = refl
one_lines [] [] (y ∷ b) rising is also same = absurd cc
one_lines [] (x ∷ a) b rising is also same = absurd cc
one_lines (log ∷ run) [] b rising is also same = absurd cc
one_lines (log ∷ run) (x ∷ a) [] rising is also same = absurd cc
one_lines (log ∷ run) (x ∷ a) (y ∷ b) rising is also same =
    let here = heads run log x a is in
    let there = heads run log y b also in
    let procs : x.proc ≡ y.proc = sym here.0 ∙ there.0 in
    let numbers : x.numbers ≡ y.numbers = sym (head_of x a log.proc (sym here.0)) ∙ same.each 0 log refl ∙ head_of y b log.proc (sym there.0) in
    let line : x ≡ y = same_line x y procs numbers in
    let rest : a ≡ b = one_lines run a b (Rising-tail log run rising) here.1 there.1 (record {
      each = λ k other at.
          let above : log.proc < other.proc = in_order (log ∷ run) 0 (suc k) log other rising refl at (omega arith) in
          sym (tail_of x a other.proc (let e = here.0 in omega arith)) ∙ same.each (suc k) other at ∙ tail_of y b other.proc (let e = there.0 in omega arith);
    }) in
    rw (line, rest) refl

pub certificates_one : CertificatesAreOne
certificates_one run a b is_run first second =
    one_lines run a b is_run.rising first.certified.matches second.certified.matches (record {
      each = λ k log at. same_list (numbers_of a log.proc) (numbers_of b log.proc) (λ i. one run a b first second (record { proc = log.proc; at = suc i }));
    })
