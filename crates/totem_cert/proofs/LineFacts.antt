-- Lines and logs, by index, by process and by place.
use Rattle.totem_cert.proofs.Common.{◌≡◌, ℕ, zero, suc, ◌<◌, ◌≤◌, ◌⊎◌, inl, inr, Option, List, [], ◌∷◌, length, get_or, slice_get, Some, None, refl, sym, ◌∙◌, ap, arith, common_steps, slice_get_within, slice_get-get_or, slice_get_past, slice_get_cases, slice_get_read, Place, Entry, Log, log_of, entry_at, Numbering, numbers_of, number_at, IsAtMost, Rising, Rising-tail, in_order, less_or_not, log_of_cases, log_of_at, Table, IsEntryAt, place, count_of, given_at, shared_by, Fits, IsClassOf, IsLogOf, IsNumbered}
use Rattle.totem_table.specs.Tables as tables
use Rattle.totem_cert.proofs.Lists.{at_index}

pub fits_tail : (log : Log) (logs : List Log) (line : Numbering) (lines : List Numbering) → Fits (log ∷ logs) (line ∷ lines) → Fits logs lines
fits_tail log logs line lines fits = record {
  count = (let h = fits.count in omega arith);
  proc = λ k l n at_l at_n. fits.proc (suc k) l n at_l at_n;
  short = λ k l n at_l at_n. fits.short (suc k) l n at_l at_n;
}

-- if the processes are ascending, each line is found by the process of its log
pub line_of_at : (run : List Log) (lines : List Numbering) (k : ℕ) (log : Log) (line : Numbering) → Rising run → Fits run lines → slice_get run k ≡ Some log → slice_get lines k ≡ Some line → numbers_of lines log.proc ≡ line.numbers
line_of_at [] lines k log line rising fits at_l at_n = absurd cc
line_of_at (x ∷ xs) [] k log line rising fits at_l at_n = absurd cc
line_of_at (x ∷ xs) (y ∷ ys) zero log line rising fits at_l at_n = grind (arith, fits.proc 0 x y)
line_of_at (x ∷ xs) (y ∷ ys) (suc k) log line rising fits at_l at_n = grind (arith, fits.proc 0 x y, in_order (x ∷ xs) 0 (suc k) x log, Rising-tail x xs, fits_tail x xs y ys, line_of_at xs ys k log line)

-- a place is given by its parts
pub same_parts : (g : Place) (p a : ℕ) → g.proc ≡ p → g.at ≡ a → g ≡ record { proc = p; at = a }
same_parts g p a procs ats = rw (← procs, ← ats) refl

-- an event has an index in its log
pub index_of : (run : List Log) (e : Place) (x : Entry) → entry_at run e ≡ Some x → (i : ℕ) × (e ≡ place e.proc i) × (slice_get (log_of run e.proc) i ≡ Some x)
index_of run e x at = grind (arith, common_steps)

-- an event with a number is before the end of its line
pub numbered_within : (lines : List Numbering) (p i : ℕ) → IsNumbered lines (place p i) → i < length (numbers_of lines p)
numbered_within lines p i h = slice_get_within (numbers_of lines p) i h.number h.given

pub within_numbered : (lines : List Numbering) (p i : ℕ) → i < length (numbers_of lines p) → IsNumbered lines (place p i)
within_numbered lines p i lt = record { number = get_or (numbers_of lines p) i 0; given = slice_get-get_or (numbers_of lines p) i 0 lt }

pub unnumbered_past : (lines : List Numbering) (p i : ℕ) → number_at lines (place p i) ≡ None → length (numbers_of lines p) ≤ i
unnumbered_past lines p i none = grind (arith, slice_get_cases)

pub past_unnumbered : (lines : List Numbering) (p i : ℕ) → length (numbers_of lines p) ≤ i → number_at lines (place p i) ≡ None
past_unnumbered lines p i le = slice_get_past (numbers_of lines p) i le

-- each log has its line
pub line_in : (run : List Log) (lines : List Numbering) (k : ℕ) (log : Log) → Rising run → Fits run lines → slice_get run k ≡ Some log → (line : Numbering) × (slice_get lines k ≡ Some line) × (numbers_of lines log.proc ≡ line.numbers)
line_in run lines k log rising fits log_at =
    let line = at_index lines k (let lt = slice_get_within run k log log_at in let c = fits.count in omega arith) in
    (line.0, line.1, line_of_at run lines k log line.0 rising fits log_at line.1)

-- the numbers of a log, by its index in the run
pub given_of : (run : List Log) (lines : List Numbering) (k : ℕ) (log : Log) → Rising run → Fits run lines → slice_get run k ≡ Some log → given_at lines k ≡ length (numbers_of lines log.proc)
given_of run lines k log rising fits log_at = let line = line_in run lines k log rising fits log_at in ap count_of line.1 ∙ ap length (sym line.2)

-- a process has one log
pub log_index : (run : List Log) (k l : ℕ) (a b : Log) → Rising run → slice_get run k ≡ Some a → slice_get run l ≡ Some b → a.proc ≡ b.proc → k ≡ l
log_index run k l a b rising at_k at_l same = grind (arith, less_or_not, in_order)

-- the entry of an event, by the index of its log
pub event_at : (run : List Log) (e : Place) (x : Entry) → entry_at run e ≡ Some x → (k i : ℕ) × (a : IsEntryAt run k i x) × (e ≡ place a.log.proc i)
event_at run e x at = go (index_of run e x at) (log_of_cases run e.proc)
  where
    go : (i : ℕ) × (e ≡ place e.proc i) × (slice_get (log_of run e.proc) i ≡ Some x)
        → (log_of run e.proc ≡ []) ⊎ ((k : ℕ) × (log : Log) × (slice_get run k ≡ Some log) × (log.proc ≡ e.proc) × (log_of run e.proc ≡ log.entries)) → (k i : ℕ) × (a : IsEntryAt run k i x) × (e ≡ place a.log.proc i)
    go (i, is, at_i) (inl none) = absurd (let h : slice_get {X = Entry} [] i ≡ Some x = rw none at at_i in cc)
    go (i, is, at_i) (inr (k, log, log_at, same, entries)) = (k, i, record { log = log; is_log = log_at; is_entry = rw entries at at_i }, is ∙ ap (λ (p : ℕ). place p i) (sym same))

pub entry_event : (run : List Log) (k i : ℕ) (x : Entry) → Rising run → (a : IsEntryAt run k i x) → slice_get (log_of run a.log.proc) i ≡ Some x
entry_event run k i x rising a = rw (log_of_at run k a.log rising a.is_log) a.is_entry

-- places in the order of the logs, and in each log of its entries
pub at_most : (run : List Log) (k i l j : ℕ) (x y : Entry) → Rising run → (a : IsEntryAt run k i x) (b : IsEntryAt run l j y) → (k < l) ⊎ ((k ≡ l) × (i ≤ j)) → IsAtMost (place a.log.proc i) (place b.log.proc j)
at_most run k i l j x y h a b m = grind (arith, in_order)

pub no_entry : (run : List Log) (p i : ℕ) → IsLogOf run p None → None ≡ slice_get (log_of run p) i
no_entry run p i none = elim (log_of_cases run p) [ inl is ↦ rw is refl | inr (k, log, at, same, _) ↦ absurd (none k log at same) ]

pub no_numbers : (run : List Log) (lines : List Numbering) (p : ℕ) → Fits run lines → IsLogOf run p None → 0 ≡ length (numbers_of lines p)
no_numbers run [] p fits none = refl
no_numbers [] (line ∷ lines) p fits none = absurd (let h = fits.count in omega arith)
no_numbers (log ∷ logs) (line ∷ lines) p fits none = grind (arith, fits.proc 0 log line, none 0 log, no_numbers logs lines p (fits_tail log logs line lines fits) (λ k l at. none (suc k) l at))

-- what the code reads at the index of a log
pub read_at : (run items : List Log) (k : ℕ) (found log : Log) → items ≡ run → slice_get run k ≡ Some found → log ≡ get_or items k log → slice_get run k ≡ Some log
read_at run items k found log same at is = rw same at (slice_get_read items _ k log refl (rw same (slice_get_within run k found at)) is)

-- what the code reads at the index of p's log
pub read_log : (run items : List Log) (p k : ℕ) (log : Log) → IsLogOf run p (Some k) → items ≡ run → log ≡ get_or items k log → (slice_get run k ≡ Some log) × (log.proc ≡ p)
read_log run items p k log h m o = grind (arith, read_at)

-- the class of the event at an index of its log
pub class_read : (run : List Log) (table : Table) (e : Place) (k at : ℕ) (log : Log) (class : Option ℕ) → Rising run → slice_get run k ≡ Some log → log.proc ≡ e.proc → e.at ≡ suc at
    → class ≡ shared_by (length table.messages.items) (slice_get log.entries at) (tables.number_at table k at) → IsClassOf run table e class
class_read run table e k at log class rising log_at proc at_e class_is = grind (arith, log_index)
