-- How the counts change when one more entry gets a number.
use Rattle.totem_cert.proofs.Common.{◌≡◌, ◌≢◌, ℕ, zero, suc, ◌+◌, ◌-◌, ◌*◌, ◌<◌, ◌≤◌, List, [], ◌∷◌, ◌++◌, length, map, drop, get_or, slice_get, Option, Some, refl, sym, ◌∙◌, ap, arith, length-append, common_steps, slice_get_within, slice_get_read, get_or_from_slice_get, get_or_past, Entry, Log, Numbering, IsRun, IsLog, IsTable, Table, less_or_not, empty_line, count_of, given_at, class_in, class_fed, class_kept, one, kept_behind, kept_in, kept_at, kept_by, Counts, CountsTo, shared_by, passed, Adds, Takes, AtMost, Pushes}
use Rattle.std.proofs.Math.ListN.{set, drop_of_length-le}
use Rattle.totem_cert.proofs.Lists.{set_here, set_other}
use Rattle.totem_cert.proofs.Sums.{sum_change, sum_millions}

one_most : (o : Option ℕ) (c : ℕ) → one o c ≤ 1
one_most o c = grind (arith, common_steps)

-- a log whose head gets its number
kept_step : (messages head : ℕ) (entries : List Entry) (row : List ℕ) (c : ℕ) → head < length entries → length entries ≡ length row → kept_in messages head entries row c ≡ kept_in messages (suc head) entries row c + passed messages entries row head c
kept_step messages head [] row c lt long = absurd (omega arith)
kept_step messages head (x ∷ xs) [] c lt long = absurd (omega arith)
kept_step messages zero (x ∷ []) (n ∷ ns) c lt long = omega arith
kept_step messages zero (x ∷ y ∷ ys) (n ∷ []) c lt long = absurd (omega arith)
kept_step messages zero (x ∷ y ∷ ys) (n ∷ m ∷ ms) c lt long = omega arith
kept_step messages (suc head) (x ∷ xs) (n ∷ ns) c lt long = kept_step messages head xs ns c (omega arith) (omega arith)

-- the counts of a run in which the head of a log gets its number
pub counts_step : (run : List Log) (table : Table) (old new : List Numbering) (k n : ℕ) (log : Log) (was : Numbering) (counts next : List ℕ)
    → IsTable run table → Counts run table old counts → Pushes old new k n → slice_get run k ≡ Some log → slice_get old k ≡ Some was → length was.numbers < length log.entries
    → Takes counts next (passed (length table.messages.items) log.entries (get_or table.rows.items k []) (length was.numbers)) → Counts run table new next
counts_step run table old new k n log was counts next is_table counted pushes log_at was_at lt takes = record {
  long = takes.long ∙ counted.long;
  each = λ c within. each c within;
}
  where
    old_given : given_at old k ≡ length was.numbers
    old_given = ap count_of was_at

    new_given : given_at new k ≡ suc (length was.numbers)
    new_given = rw pushes.is (ap count_of (set_here old k (record pushes.line { numbers = pushes.line.numbers ++ n ∷ [] }) (slice_get_within old k was was_at)) ∙ (simp length-append (let one : pushes.line ≡ was = (let h = pushes.line_at in cc) in rw one (omega arith))))

    here : (c : ℕ) → kept_at run table (given_at old k) c k ≡ kept_at run table (given_at new k) c k + passed (length table.messages.items) log.entries (get_or table.rows.items k []) (length was.numbers) c
    here c = rw (old_given, new_given, log_at) (kept_step (length table.messages.items) (length was.numbers) log.entries (get_or table.rows.items k []) c lt (is_table.rows.each k log log_at).long)

    others : (c j : ℕ) → j ≢ k → kept_at run table (given_at old j) c j ≡ kept_at run table (given_at new j) c j
    others c j other = ap (λ (g : ℕ). kept_at run table g c j) (ap count_of (rw pushes.is (sym (set_other old k j (record pushes.line { numbers = pushes.line.numbers ++ n ∷ [] }) other))))

    less : (p q r s t : ℕ) → p ≡ q - t → q ≡ r → r ≡ s + t → p ≡ s
    less p q r s t h k m = omega arith

    each : (c : ℕ) → c < length next → get_or next c 0 ≡ kept_by run table new c
    each c within = less _ _ _ _ (passed (length table.messages.items) log.entries (get_or table.rows.items k []) (length was.numbers) c) (takes.each c within) (counted.each c (rw (takes.long) at within))
        (sum_change (length run) k (passed (length table.messages.items) log.entries (get_or table.rows.items k []) (length was.numbers) c) (λ j. kept_at run table (given_at old j) c j) (λ j. kept_at run table (given_at new j) c j) (slice_get_within run k log log_at) (here c) (λ j le other. others c j other))

-- ---- the entries of a log

-- the entries before the one at i are counted
pub record CountsBehind (messages : ℕ) (entries : List Entry) (row old new : List ℕ) (i : ℕ) : Type 0 where
  pub long : length new ≡ length old
  pub each : (c : ℕ) → c < length new → get_or new c 0 + kept_behind messages (drop i entries) (drop i row) c ≡ get_or old c 0 + kept_behind messages entries row c

behind_most : (messages : ℕ) (entries : List Entry) (row : List ℕ) (c : ℕ) → kept_behind messages entries row c ≤ 2 * length entries
behind_most messages [] row c = omega arith
behind_most messages (x ∷ xs) [] c = omega arith
behind_most messages (x ∷ xs) (n ∷ ns) c = let rest = behind_most messages xs ns c in let fed = one_most (class_fed x n) c in let shared = one_most (class_in messages x n) c in omega arith

kept_most : (messages given : ℕ) (entries : List Entry) (row : List ℕ) (c : ℕ) → kept_in messages given entries row c ≤ 2 * length entries
kept_most messages given [] row c = omega arith
kept_most messages given (x ∷ xs) [] c = omega arith
kept_most messages zero (x ∷ xs) (n ∷ ns) c = let rest = behind_most messages xs ns c in let here = one_most (class_fed x n) c in omega arith
kept_most messages (suc given) (x ∷ xs) (n ∷ ns) c = let rest = kept_most messages given xs ns c in omega arith

pub at_most_more : (counts : List ℕ) (a b : ℕ) → AtMost counts a → a ≤ b → AtMost counts b
at_most_more counts a b few le = record { each = λ c. (let h = few.each c in omega arith) }

-- no count is greater than twice the number of entries before
pub behind_few : (messages : ℕ) (entries : List Entry) (row old new : List ℕ) (i : ℕ) → AtMost old 62000000 → length entries ≤ 1000000 → CountsBehind messages entries row old new i → AtMost new 90000000
behind_few messages entries row old new i few short so_far = grind (arith, less_or_not, behind_most, get_or_past)

kept_cases : (messages : ℕ) (x : Entry) (n c : ℕ) → one (class_fed x n) c + one (class_in messages x n) c ≡ one (class_kept messages x n) c
kept_cases messages x n c = grind arith

kept_drop : (messages : ℕ) (es : List Entry) (ns : List ℕ) (i : ℕ) (x : Entry) (c : ℕ) → slice_get es i ≡ Some x → length es ≡ length ns
    → kept_behind messages (drop i es) (drop i ns) c ≡ one (class_kept messages x (get_or ns i 0)) c + kept_behind messages (drop (suc i) es) (drop (suc i) ns) c
kept_drop messages [] ns i x c at long = cc
kept_drop messages (y ∷ ys) [] i x c at long = absurd (omega arith)
kept_drop messages (y ∷ ys) (n ∷ ns) zero x c at long = let one : y ≡ x = cc in let cases = kept_cases messages y n c in rw (← one) (omega arith)
kept_drop messages (y ∷ ys) (n ∷ ns) (suc i) x c at long = kept_drop messages ys ns i x c at (omega arith)

-- one more entry is counted
pub behind_more : (messages : ℕ) (entries : List Entry) (row old mid new : List ℕ) (i : ℕ) (x : Entry) (class : Option ℕ) → slice_get entries i ≡ Some x → length entries ≡ length row → class ≡ class_kept messages x (get_or row i 0)
    → CountsBehind messages entries row old mid i → Adds mid new (one class) → CountsBehind messages entries row old new (i + 1)
behind_more messages entries row old mid new i x class at long is so_far adds = grind (arith, kept_drop)

-- the head keeps no class of which it is an entry
pub behind_all : (messages : ℕ) (entries : List Entry) (row old mid new : List ℕ) (i : ℕ) → length entries ≤ i → length entries ≡ length row → CountsBehind messages entries row old mid i
    → Takes mid new (one (shared_by messages (slice_get entries 0) (get_or row 0 0))) → Adds old new (kept_in messages 0 entries row)
behind_all messages entries row old mid new i end long so_far takes = record {
  long = takes.long ∙ so_far.long;
  each = λ c lt.
      let none : drop i entries ≡ [] = drop_of_length-le entries end in
      let all : get_or mid c 0 + 0 ≡ get_or old c 0 + kept_behind messages entries row c = rw none at (so_far.each c (rw takes.long at lt)) in
      less _ _ _ _ _ _ (takes.each c lt) all (head c entries row long);
}
  where
    less : (p q r s t u : ℕ) → p ≡ q - s → q + 0 ≡ r + t → t ≡ u + s → p ≡ r + u
    less p q r s t u a b c = omega arith

    head : (c : ℕ) (es : List Entry) (ns : List ℕ) → length es ≡ length ns → kept_behind messages es ns c ≡ kept_in messages 0 es ns c + one (shared_by messages (slice_get es 0) (get_or ns 0 0)) c
    head c [] ns long = refl
    head c (x ∷ xs) [] long = absurd (omega arith)
    head c (x ∷ xs) (n ∷ ns) long = omega arith

-- ---- all logs

-- the counts so far are small enough
pub counts_few : (run : List Log) (table : Table) (lines : List Numbering) (counts : List ℕ) (k : ℕ) → ((j : ℕ) (log : Log) → slice_get run j ≡ Some log → length log.entries ≤ 1000000) → k ≤ 31 → CountsTo run table lines counts k → AtMost counts 62000000
counts_few run table lines counts k short le to = grind (arith, less_or_not, kept_most, sum_millions, get_or_past)

empty_given : (run : List Log) (k : ℕ) → given_at (map empty_line run) k ≡ 0
empty_given [] k = grind arith
empty_given (log ∷ logs) zero = refl
empty_given (log ∷ logs) (suc k) = empty_given logs k

-- one more log is counted
pub counts_more : (run : List Log) (table : Table) (old new : List ℕ) (k messages : ℕ) (log : Log) (entries : List Entry) (row : List ℕ) → CountsTo run table (map empty_line run) old k → slice_get run k ≡ Some log
    → messages ≡ length table.messages.items → entries ≡ log.entries → row ≡ get_or table.rows.items k [] → Adds old new (kept_in messages 0 entries row) → CountsTo run table (map empty_line run) new (k + 1)
counts_more run table old new k messages log entries row to log_at messages_is entries_is row_is adds = grind (arith, empty_given)

-- a line with one more number
pub pushes_of : (old new : List Numbering) (k n : ℕ) (read now : Numbering) → k < length old → read ≡ get_or old k read → new ≡ set old k now → now ≡ record read { numbers = read.numbers ++ n ∷ [] } → Pushes old new k n
pushes_of old new k n read now within is new_is now_is = record { line = read; line_at = slice_get_read old _ k read refl within is; is = rw (← now_is) new_is }

-- the row of a log, as the code reads it
pub table_row : (run : List Log) (table : Table) (k : ℕ) (log : Log) (entries : List Entry) (row read : List ℕ) → IsTable run table → slice_get run k ≡ Some log → entries ≡ log.entries → read ≡ get_or table.rows.items k read → row ≡ read
    → (row ≡ get_or table.rows.items k []) × (length entries ≡ length row)
table_row run table k log entries row read is log_at entries_is read_is row_is =
    let within : k < length table.rows.items = (let a = is.rows.long in let b = slice_get_within run k log log_at in omega arith) in
    let at : slice_get table.rows.items k ≡ Some read = slice_get_read table.rows.items _ k read refl within read_is in
    let same : row ≡ get_or table.rows.items k [] = row_is ∙ sym (get_or_from_slice_get table.rows.items k read [] at) in
    (same, rw (entries_is, same) (is.rows.each k log log_at).long)

pub logs_short : (run : List Log) → IsRun run → (k : ℕ) (log : Log) → slice_get run k ≡ Some log → length log.entries ≤ 1000000
logs_short run is k log at =
    let h = is.each k log (slice_get_within run k log at) in
    let i : IsLog log = rw (get_or_from_slice_get run k log log at) at h in
    i.entries.few
