-- Where an event and its number are.
use Rattle.totem_outcome.proofs.Common.{◌≡◌, ℕ, zero, suc, ◌+◌, ◌<◌, inl, inr, List, [], ◌∷◌, length, get_or, slice_get, Some, refl, sym, ◌∙◌, ap, subst, add-one, arith, slice_get_within, slice_get-get_or, Place, Log, log_of, at_place, entry_at, Numbering, numbers_of, number_in, Matches, Rising, log_of_cases, log_of_at}
use Rattle.totem_evs.specs.declared.entry.Entry.{Entry}
use Rattle.totem_outcome.specs.Numbered.{Stands, place}
use Rattle.totem_outcome.specs.Each.{IsIn}
use Rattle.totem_outcome.proofs.Matching.{line_at, matches_at, numbers_of_at}

-- the element at an index
pub at_index : {A : Type 0} → (xs : List A) (i : ℕ) → i < length xs → (x : A) × (slice_get xs i ≡ Some x)
at_index [] i lt = absurd (omega arith)
at_index (x ∷ xs) zero lt = (x, refl)
at_index (x ∷ xs) (suc i) lt = at_index xs i (omega arith)

at_next : (log : List Entry) (i : ℕ) → at_place log (i + 1) ≡ slice_get log i
at_next log i = rw add-one refl

number_next : (numbers : List ℕ) (i : ℕ) → number_in numbers (i + 1) ≡ slice_get numbers i
number_next numbers i = rw add-one refl

-- the entry at i of a log, and the number at i of its line
pub stands_at : (run : List Log) (lines : List Numbering) (k i : ℕ) (log : Log) (line : Numbering) (x : Entry) (n : ℕ) → Rising run → Matches run lines → slice_get run k ≡ Some log → slice_get lines k ≡ Some line
    → slice_get log.entries i ≡ Some x → slice_get line.numbers i ≡ Some n → Stands run lines (place log.proc i) x n
stands_at run lines k i log line x n rising matches at_log at_line at_entry at_number = record {
  entry = at_next (log_of run log.proc) i ∙ ap (λ (es : List Entry). slice_get es i) (log_of_at run k log rising at_log) ∙ at_entry;
  number = number_next (numbers_of lines log.proc) i ∙ ap (λ (ns : List ℕ). slice_get ns i) (numbers_of_at run lines k log line rising matches at_log at_line) ∙ at_number;
}

pub in_stands : (run : List Log) (lines : List Numbering) (k j : ℕ) (e : Place) (x : Entry) (n : ℕ) → Rising run → Matches run lines → IsIn run lines k j e x n → Stands run lines e x n
in_stands run lines k j e x n rising matches h =
    subst (λ (f : Place). Stands run lines f x n) h.place_is (stands_at run lines k j h.log h.line x n rising matches h.log_is h.line_is h.entry_is h.number_is)

-- two events at one index of a log are one
pub one_in : (run : List Log) (lines : List Numbering) (k j : ℕ) (e f : Place) (x y : Entry) (n m : ℕ) → IsIn run lines k j e x n → IsIn run lines k j f y m → (e ≡ f) × (x ≡ y) × (n ≡ m)
one_in run lines k j e f x y n m a b =
    let logs : a.log ≡ b.log = (let h = a.log_is in let i = b.log_is in cc) in
    let ones : a.line ≡ b.line = (let h = a.line_is in let i = b.line_is in cc) in
    let entry : slice_get b.log.entries j ≡ Some x = rw (← logs) a.entry_is in
    let number : slice_get b.line.numbers j ≡ Some n = rw (← ones) a.number_is in
    let at : place b.log.proc j ≡ e = rw (← logs) a.place_is in
    (sym at ∙ b.place_is, (let h = b.entry_is in cc), (let h = b.number_is in cc))

-- the log and the index that an event is at
pub record Located (run : List Log) (lines : List Numbering) (e : Place) (x : Entry) (n : ℕ) : Type 0 where
  pub index : ℕ
  pub at : ℕ
  pub is : IsIn run lines index at e x n

-- places of one process and one number are one
same_place : (p n : ℕ) (f : Place) → p ≡ f.proc → n ≡ f.at → record { proc = p; at = n } ≡ f
same_place p n f procs ats = rw (procs, ats) refl

-- each event is in a log, and has a number
numbered : (run : List Log) (lines : List Numbering) (e : Place) (x : Entry) → Matches run lines → entry_at run e ≡ Some x → (n : ℕ) × Located run lines e x n
numbered run lines e x matches at = go e.at refl at
  where
    go : (a : ℕ) → e.at ≡ a → at_place (log_of run e.proc) a ≡ Some x → (n : ℕ) × Located run lines e x n
    go zero is h = absurd cc
    go (suc i) is h = elim (log_of_cases run e.proc) [
      | inl none ↦ absurd (let at : slice_get [] i ≡ Some x = rw none at h in cc)
      | inr (k, log, at_log, procs, same) ↦
          let found = line_at run lines k log matches at_log in
          let both = matches_at run lines k log found.0 matches at_log found.1 in
          let entry : slice_get log.entries i ≡ Some x = ap (λ (es : List Entry). slice_get es i) (sym same) ∙ h in
          let within = slice_get_within log.entries i x entry in
          let number = slice_get-get_or found.0.numbers i 0 (omega (arith, both.1)) in (
            get_or found.0.numbers i 0,
            record {
              index = k;
              at = i;
              is = record { log = log; line = found.0; log_is = at_log; line_is = found.1; entry_is = entry; number_is = number; place_is = same_place log.proc (i + 1) e procs (omega arith) };
            },
          )
    ]

pub has_number : (run : List Log) (lines : List Numbering) (e : Place) (x : Entry) → Rising run → Matches run lines → entry_at run e ≡ Some x → (n : ℕ) × Stands run lines e x n
has_number run lines e x rising matches at = (let (n, l) = numbered run lines e x matches at in (n, in_stands run lines l.index l.at e x n rising matches l.is))

pub locate : (run : List Log) (lines : List Numbering) (e : Place) (x : Entry) (n : ℕ) → Rising run → Matches run lines → Stands run lines e x n → Located run lines e x n
locate run lines e x n rising matches stands =
    let found = numbered run lines e x matches stands.entry in
    let there = in_stands run lines found.1.index found.1.at e x found.0 rising matches found.1.is in
    let same : found.0 ≡ n = (let a = there.number in let b = stands.number in cc) in
    subst (λ (m : ℕ). Located run lines e x m) same found.1
