-- What holds for the entries of a run with their numbers, log by log.
use Rattle.totem_plain.proofs.Common.{below_more, ◌≡◌, ℕ, ◌+◌, ◌<◌, ◌≤◌, List, length, slice_get, Some, arith, slice_get_within, Place, Entry, Log, Numbering, Matches, Rising}
use Rattle.totem_outcome.specs.Numbered.{place}
use Rattle.totem_outcome.specs.Each.{EachEvent, SomeEvent}
use Rattle.totem_outcome.proofs.Standing.{stands_at, locate}
use Rattle.totem_plain.specs.Numbered.{EachIn, SomeIn}

module _ (P : Place → Entry → ℕ → Type 0) where
  pub entry_more : (log : Log) (line : Numbering) (n : ℕ) (x : Entry) (k : ℕ) → slice_get log.entries n ≡ Some x → slice_get line.numbers n ≡ Some k → P (place log.proc n) x k → EachIn P log line n → EachIn P log line (n + 1)
  entry_more log line n x k at number here before = record {
    each = λ i y m lt. below_more (λ i. slice_get log.entries i ≡ Some y → slice_get line.numbers i ≡ Some m → P (place log.proc i) y m) n (λ i under. before.each i y m under)
        (λ also there. (let a : x ≡ y = cc in let b : k ≡ m = cc in rw (← a, ← b) here)) i lt;
  }

  -- a fact holds for each entry of the first n logs
  pub record EachBefore (run : List Log) (lines : List Numbering) (n : ℕ) : Type 0 where
    pub each : (k : ℕ) → k < n → (log : Log) (line : Numbering) → slice_get run k ≡ Some log → slice_get lines k ≡ Some line → EachIn P log line (length log.entries)

  pub log_more : (run : List Log) (lines : List Numbering) (n : ℕ) (log : Log) (line : Numbering) → slice_get run n ≡ Some log → slice_get lines n ≡ Some line → EachIn P log line (length log.entries) → EachBefore run lines n → EachBefore run lines (n + 1)
  log_more run lines n log line at number here before = record {
    each = below_more (λ k. (g : Log) (l : Numbering) → slice_get run k ≡ Some g → slice_get lines k ≡ Some l → EachIn P g l (length g.entries)) n before.each
        (λ g l also there. (let a : log ≡ g = cc in let b : line ≡ l = cc in rw (← a, ← b) here));
  }

  pub each_event : (run : List Log) (lines : List Numbering) (n : ℕ) → Rising run → Matches run lines → length run ≤ n → EachBefore run lines n → EachEvent P run lines
  each_event run lines n rising matches end before = record {
    each = λ e x k stands.
        let l = locate run lines e x k rising matches stands in
        let log = before.each l.index (omega (arith, slice_get_within run l.index l.is.log l.is.log_is)) l.is.log l.is.line l.is.log_is l.is.line_is in
        rw l.is.place_is at (log.each l.at x k (slice_get_within l.is.log.entries l.at x l.is.entry_is) l.is.entry_is l.is.number_is);
  }

  pub some_event : (run : List Log) (lines : List Numbering) (k : ℕ) (log : Log) (line : Numbering) → Rising run → Matches run lines → slice_get run k ≡ Some log → slice_get lines k ≡ Some line → SomeIn P log line → SomeEvent P run lines
  some_event run lines k log line rising matches at number here = record {
    event = place log.proc here.index;
    entry = here.entry;
    number = here.number;
    stands = stands_at run lines k here.index log line here.entry here.number rising matches at number here.entry_is here.number_is;
    holds = here.holds;
  }
