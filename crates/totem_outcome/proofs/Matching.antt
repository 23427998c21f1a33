-- Logs and the lines that match them.
use Rattle.totem_outcome.proofs.Common.{below_more, ◌≡◌, ℕ, true, false, zero, suc, ◌+◌, ◌<◌, ◌≤◌, List, [], ◌∷◌, length, slice_get, Some, refl, sym, ◌∙◌, ap, arith, rules, ◌==◌, Log, Numbering, numbers_of, Matches, Rising, Rising-tail, in_order}
use Rattle.totem_outcome.specs.Counts.{IsLineOf}

-- the numbers of lines and logs are equal
pub as_many : (run : List Log) (lines : List Numbering) → Matches run lines → length run ≡ length lines
as_many [] [] h = refl
as_many [] (line ∷ lines) h = absurd cc
as_many (log ∷ logs) [] h = absurd cc
as_many (log ∷ logs) (line ∷ lines) h = let rest : length logs ≡ length lines = as_many logs lines (cc) in omega arith

-- the line of a log
pub line_at : (run : List Log) (lines : List Numbering) (k : ℕ) (log : Log) → Matches run lines → slice_get run k ≡ Some log → (line : Numbering) × (slice_get lines k ≡ Some line)
line_at [] lines k log h at = absurd cc
line_at (g ∷ gs) [] k log h at = absurd cc
line_at (g ∷ gs) (l ∷ ls) zero log h at = (l, refl)
line_at (g ∷ gs) (l ∷ ls) (suc k) log h at = line_at gs ls k log (cc) at

-- the log of a line
pub log_at : (run : List Log) (lines : List Numbering) (k : ℕ) (line : Numbering) → Matches run lines → slice_get lines k ≡ Some line → (log : Log) × (slice_get run k ≡ Some log)
log_at run [] k line h at = absurd cc
log_at [] (l ∷ ls) k line h at = absurd cc
log_at (g ∷ gs) (l ∷ ls) zero line h at = (g, refl)
log_at (g ∷ gs) (l ∷ ls) (suc k) line h at = log_at gs ls k line (cc) at

-- a log and its line have the same process and the same length
pub matches_at : (run : List Log) (lines : List Numbering) (k : ℕ) (log : Log) (line : Numbering) → Matches run lines → slice_get run k ≡ Some log → slice_get lines k ≡ Some line → IsLineOf log line
matches_at [] lines k log line h at_log at_line = absurd cc
matches_at (g ∷ gs) [] k log line h at_log at_line = absurd cc
matches_at (g ∷ gs) (l ∷ ls) zero log line h at_log at_line =
    let heads : ◌≡◌ {A = ℕ × ℕ} (g.proc, length g.entries) (l.proc, length l.numbers) = cc in
    let same_log : g ≡ log = cc in
    let same_line : l ≡ line = cc in
    let both : IsLineOf g l = (ap (λ (x : ℕ × ℕ). x.0) heads, ap (λ (x : ℕ × ℕ). x.1) heads) in
    rw (← same_log, ← same_line) both
matches_at (g ∷ gs) (l ∷ ls) (suc k) log line h at_log at_line = matches_at gs ls k log line (cc) at_log at_line

-- each line is that of its process
pub numbers_of_at : (run : List Log) (lines : List Numbering) (k : ℕ) (log : Log) (line : Numbering) → Rising run → Matches run lines → slice_get run k ≡ Some log → slice_get lines k ≡ Some line → numbers_of lines log.proc ≡ line.numbers
numbers_of_at [] lines k log line rising h at_log at_line = absurd cc
numbers_of_at (g ∷ gs) [] k log line rising h at_log at_line = absurd cc
numbers_of_at (g ∷ gs) (l ∷ ls) zero log line rising h at_log at_line =
    let both = matches_at (g ∷ gs) (l ∷ ls) zero log line h at_log at_line in
    let same_line : l ≡ line = cc in
    let procs : l.proc ≡ log.proc = ap (λ (x : Numbering). x.proc) same_line ∙ sym both.0 in
    let test : (l.proc == log.proc) ≡ true = rw procs (search rules) in
    rw test (ap (λ (x : Numbering). x.numbers) same_line)
numbers_of_at (g ∷ gs) (l ∷ ls) (suc k) log line rising h at_log at_line =
    let first = matches_at (g ∷ gs) (l ∷ ls) zero g l h refl refl in
    let lt : g.proc < log.proc = in_order (g ∷ gs) 0 (suc k) g log rising refl at_log (omega arith) in
    let below : l.proc < log.proc = rw (← first.0) lt in
    let test : (l.proc == log.proc) ≡ false = search rules in
    rw test (numbers_of_at gs ls k log line (Rising-tail g gs rising) (cc) at_log at_line)

-- ---- the loop over logs and lines

-- the first `end` logs have their lines
pub record LinesBefore (run : List Log) (lines : List Numbering) (end : ℕ) : Type 0 where
  pub each : (k : ℕ) → k < end → (log : Log) (line : Numbering) → slice_get run k ≡ Some log → slice_get lines k ≡ Some line → IsLineOf log line

pub one_more : (run : List Log) (lines : List Numbering) (k : ℕ) (log : Log) (line : Numbering) → slice_get run k ≡ Some log → slice_get lines k ≡ Some line → IsLineOf log line → LinesBefore run lines k → LinesBefore run lines (k + 1)
one_more run lines k log line at_log at_line is so_far = record {
  each = below_more (λ j. (g : Log) (l : Numbering) → slice_get run j ≡ Some g → slice_get lines j ≡ Some l → IsLineOf g l) k so_far.each
      (λ g l at_g at_l. (let same_log : log ≡ g = cc in let same_line : line ≡ l = cc in rw (← same_log, ← same_line) is));
}

pub all_before : (run : List Log) (lines : List Numbering) (k : ℕ) → length run ≤ k → LinesBefore run lines k → LinesBefore run lines (length run)
all_before run lines k end so_far = record { each = λ j lt g l at_g at_l. so_far.each j (omega arith) g l at_g at_l }

pub all_match : (run : List Log) (lines : List Numbering) → length run ≡ length lines → LinesBefore run lines (length run) → Matches run lines
all_match [] [] e h = refl
all_match [] (l ∷ ls) e h = absurd (omega arith)
all_match (g ∷ gs) [] e h = absurd (omega arith)
all_match (g ∷ gs) (l ∷ ls) e h =
    let first = h.each 0 (omega arith) g l refl refl in
    let rest : Matches gs ls = all_match gs ls (omega arith) (record { each = λ k lt log line at_log at_line. h.each (suc k) (omega arith) log line at_log at_line }) in
    let pair : ◌≡◌ {A = ℕ × ℕ} (g.proc, length g.entries) (l.proc, length l.numbers) = rw (first.0, first.1) refl in
    cc

pub not_of_one : (run : List Log) (lines : List Numbering) (k : ℕ) (log : Log) (line : Numbering) → slice_get run k ≡ Some log → slice_get lines k ≡ Some line → (IsLineOf log line → ⊥) → Matches run lines → ⊥
not_of_one run lines k log line at_log at_line never h = never (matches_at run lines k log line h at_log at_line)
