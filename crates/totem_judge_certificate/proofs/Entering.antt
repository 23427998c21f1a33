-- What holds for events, one after the other along the logs of a run.
use Rattle.totem_judge_certificate.proofs.Common.{◌≡◌, ℕ, ◌+◌, ◌<◌, ◌≤◌, inl, inr, List, length, get_or, slice_get, Some, refl, sym, ◌∙◌, ap, arith, slice_get_within, slice_get_read, slice_get-get_or, Place, Entry, Log, Numbering, Matches, Rising, less_or_not, Stands, place, EachEvent, SomePair, IsIn, EachPast, as_many, matches_at, one_in, locate}

-- two events of which this holds
pub some_pair : (P : Place → Entry → ℕ → Place → Entry → ℕ → Type 0) (run : List Log) (lines : List Numbering) (e f : Place) (x y : Entry) (n m : ℕ) → Stands run lines e x n → Stands run lines f y m → P e x n f y m → SomePair P run lines
some_pair P run lines e f x y n m first second holds = record { event = e; entry = x; number = n; stands = first; holds = record { event = f; entry = y; number = m; stands = second; holds = holds } }

pub weaker_past : (P Q : Place → Entry → ℕ → Type 0) (run : List Log) (lines : List Numbering) (k j : ℕ) → ((e : Place) (x : Entry) (n : ℕ) → P e x n → Q e x n) → EachPast P run lines k j → EachPast Q run lines k j
weaker_past P Q run lines k j so h = record { each = λ i at e x n past inside. so e x n (h.each i at e x n past inside) }

module _ (P : Place → Entry → ℕ → Type 0) (run : List Log) (lines : List Numbering) where
  -- one more event of the log at k
  pub more_past : (k j : ℕ) (e : Place) (x : Entry) (n : ℕ) → IsIn run lines k j e x n → P e x n → EachPast P run lines k j → EachPast P run lines k (j + 1)
  more_past k j e x n here holds before = record {
    each = λ i at f y m past inside. elim past [
      | inl lt ↦ before.each i at f y m (inl lt) inside
      | inr (same, lt) ↦ elim (less_or_not at j) [
        | inl under ↦ before.each i at f y m (inr (same, under)) inside
        | inr (inl over) ↦ absurd (omega arith)
        | inr (inr one) ↦
            let there : IsIn run lines k j f y m = rw (← same, ← one) inside in
            let (places, entries, numbers) = one_in run lines k j e f x y n m here there in
            rw (← places, ← entries, ← numbers) holds
      ]
    ];
  }

  -- the next log
  pub next_log : (k j : ℕ) (log : Log) → slice_get run k ≡ Some log → length log.entries ≤ j → EachPast P run lines k j → EachPast P run lines (k + 1) 0
  next_log k j log at_log end before = record {
    each = λ i at f y m past inside. elim past [
      | inr both ↦ absurd (omega (arith, both.1))
      | inl lt ↦ elim (less_or_not i k) [
        | inl under ↦ before.each i at f y m (inl under) inside
        | inr (inl over) ↦ absurd (omega arith)
        | inr (inr same) ↦
            let logs : inside.log ≡ log = (let a : slice_get run k ≡ Some inside.log = rw (← same) inside.log_is in cc) in
            let within : at < length log.entries = rw (← logs) (slice_get_within inside.log.entries at y inside.entry_is) in
            before.each i at f y m (inr (same, omega arith)) inside
      ]
    ];
  }

  -- all events
  pub all_past : (k : ℕ) → Rising run → Matches run lines → length run ≤ k → EachPast P run lines k 0 → EachEvent P run lines
  all_past k rising matches end before = record {
    each = λ e x n stands.
        let l = locate run lines e x n rising matches stands in
        let within = slice_get_within run l.index l.is.log l.is.log_is in
        before.each l.index l.at e x n (inl (omega arith)) l.is;
  }

-- ---- what the loops read

-- a log, and its line
read_at : (run : List Log) (lines : List Numbering) (k : ℕ) (log : Log) (line : Numbering) → Matches run lines → k < length run → log ≡ get_or run k log → line ≡ get_or lines k line → (slice_get run k ≡ Some log) × (slice_get lines k ≡ Some line)
read_at run lines k log line matches lt log_is line_is = (slice_get_read run _ k log refl lt log_is, slice_get_read lines _ k line refl (omega (arith, as_many run lines matches, lt)) line_is)

-- each entry has a number
pub number_within : (run : List Log) (lines : List Numbering) (k j : ℕ) (log : Log) (line : Numbering) (entries : List Entry) (numbers : List ℕ) → Matches run lines → k < length run → log ≡ get_or run k log → line ≡ get_or lines k line → entries ≡ log.entries → numbers ≡ line.numbers
    → j < length entries → j < length numbers
number_within run lines k j log line entries numbers matches inside log_is line_is es ns lt =
    let at = read_at run lines k log line matches inside log_is line_is in
    let both = matches_at run lines k log line matches at.0 at.1 in
    omega (arith, ap length es, ap length ns, both.1)

pub read_in : (run : List Log) (lines : List Numbering) (k j : ℕ) (log : Log) (line : Numbering) (entries : List Entry) (numbers : List ℕ) (x : Entry) → Matches run lines → k < length run → log ≡ get_or run k log → line ≡ get_or lines k line → entries ≡ log.entries → numbers ≡ line.numbers
    → j < length entries → x ≡ get_or entries j x → IsIn run lines k j (place log.proc j) x (get_or numbers j 0)
read_in run lines k j log line entries numbers x matches inside log_is line_is es ns lt is = record {
  log = log;
  line = line;
  log_is = (read_at run lines k log line matches inside log_is line_is).0;
  line_is = (read_at run lines k log line matches inside log_is line_is).1;
  entry_is = ap (λ (l : List Entry). slice_get l j) (sym es) ∙ slice_get_read entries _ j x refl lt is;
  number_is = ap (λ (l : List ℕ). slice_get l j) (sym ns) ∙ slice_get-get_or numbers j 0 (number_within run lines k j log line entries numbers matches inside log_is line_is es ns lt);
  place_is = refl;
}
