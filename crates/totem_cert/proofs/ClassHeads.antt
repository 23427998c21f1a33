-- The first entries of logs without a number, by the numbers of their classes.
use Rattle.totem_cert.proofs.Common.{◌≡◌, ℕ, suc, ◌<◌, List, [], length, get_or, slice_get, Option, Some, None, Bool, IsTrue, ◌↔◌, refl, sym, ap, arith, common_steps, slice_get_within, slice_get_read, Place, Entry, Log, IsEvent, Numbering, Rising, Table, place, class_at, class_fed, class_in, count_of, fed_by, given_at, shared_by, Counts, HasHead, Fits, IsNext, IsNextHead, IsNextIn, IsReady}
use Rattle.totem_table.specs.Tables.{IsTable, IsEntryAt}
use Rattle.totem_cert.specs.declared.heads.Head.{Head}
use Rattle.totem_cert.specs.declared.heads.Head.TheVariants.{End, Alone, Class}
use Rattle.totem_cert.specs.Heads.{FeedsAlone, IsHead, IsWithin, IsUnkept}
use Rattle.totem_cert.proofs.Lists.{at_index}
use Rattle.totem_cert.proofs.Classes.{class_within}
use Rattle.totem_cert.proofs.Countable.{ready_counted, alone_ready}
use Rattle.totem_cert.proofs.LineFacts.{log_index, event_at}

-- two entries at one place are one
pub one_entry : (run : List Log) (k i : ℕ) (x y : Entry) → IsEntryAt run k i x → IsEntryAt run k i y → x ≡ y
one_entry run k i x y a b = grind (arith, common_steps)

-- ---- heads

-- how many entries of a log have a number, as the code reads it
pub given_read : (run : List Log) (lines : List Numbering) (k : ℕ) (log : Log) (read : Numbering) (numbers : List ℕ) → Fits run lines → slice_get run k ≡ Some log → read ≡ get_or lines k read → numbers ≡ read.numbers → length numbers ≡ given_at lines k
given_read run lines k log read numbers fits log_at read_is is = grind (arith, slice_get_read, slice_get_within)

-- the head, as the code reads it
pub head_entry : (run : List Log) (lines : List Numbering) (k : ℕ) (log : Log) (entries : List Entry) (head : ℕ) (x : Entry) → slice_get run k ≡ Some log → head ≡ given_at lines k → entries ≡ log.entries → slice_get entries head ≡ Some x
    → IsEntryAt run k (given_at lines k) x
head_entry run lines k log entries head x log_at head_is entries_is at = record { log = log; is_log = log_at; is_entry = rw (entries_is, head_is) at at }

-- the class of a head
pub next_class : (read messages : ℕ) (entries : List Entry) (given_row row : List ℕ) (head given : ℕ) (x : Entry) (class : Option ℕ) → class ≡ shared_by read (slice_get entries head) (get_or given_row head 0) → slice_get entries head ≡ Some x
    → read ≡ messages → given_row ≡ row → head ≡ given → class ≡ class_in messages x (get_or row given 0)
next_class read messages entries given_row row head given x class is at read_is row_is head_is = grind arith

pub head_is : (run : List Log) (table : Table) (lines : List Numbering) (k c : ℕ) (h : Head) (y : Entry) → IsHead run table lines k h → IsEntryAt run k (given_at lines k) y → class_at table k (given_at lines k) y ≡ Some c → h ≡ Class c
head_is run table lines k c End y is b in_c = absurd (let lt = is (given_at lines k) y b in omega arith)
head_is run table lines k c Alone y (x, a, alone) b in_c = absurd (let one : x ≡ y = one_entry run k (given_at lines k) x y a b in let h : class_at table k (given_at lines k) y ≡ None = rw one at alone in cc)
head_is run table lines k c (Class d) y (x, a, in_d) b in_c = let one : x ≡ y = one_entry run k (given_at lines k) x y a b in let h : class_at table k (given_at lines k) y ≡ Some d = rw one at in_d in cc

-- an entry in a class with others feeds none
shared_feeds : (messages : ℕ) (x : Entry) (n c : ℕ) → class_in messages x n ≡ Some c → class_fed x n ≡ None
shared_feeds messages x n c in_c = grind (arith, common_steps)

pub head_feeds : (run : List Log) (table : Table) (lines : List Numbering) (k : ℕ) (h : Head) (log : Log) (entries : List Entry) (row : List ℕ) (at : ℕ) → IsHead run table lines k h → slice_get run k ≡ Some log → entries ≡ log.entries
    → row ≡ get_or table.rows.items k [] → at ≡ given_at lines k → FeedsAlone h (fed_by (slice_get entries at) (get_or row at 0))
head_feeds run table lines k h log entries row at m o p q r = grind (arith, shared_feeds)

pub has_head : (run : List Log) (lines : List Numbering) (k : ℕ) (log : Log) (x : Entry) → Fits run lines → slice_get run k ≡ Some log → IsEntryAt run k (given_at lines k) x → HasHead log lines k
has_head run lines k log x fits log_at a =
    let line = at_index lines k (let lt = slice_get_within run k log log_at in let c = fits.count in omega arith) in
    let one : a.log ≡ log = (let h = a.is_log in cc) in
    let lt : given_at lines k < length log.entries = rw one at (slice_get_within a.log.entries (given_at lines k) x a.is_entry) in
    let given : given_at lines k ≡ length line.0.numbers = ap count_of line.1 in
    record { line = line.0; line_at = line.1; more = omega arith }

pub next_in : (run : List Log) (table : Table) (lines : List Numbering) (k c : ℕ) → IsHead run table lines k (Class c) → IsNextHead run lines k → IsNextIn run table lines c
next_in run table lines k c (x, a, in_c) head =
    let one : a.log ≡ head.log = (let p = a.is_log in let q = head.log_at in cc) in
    record { k = k; entry = x; at = a; class = in_c; next = rw one head.next }

pub next_at : (run : List Log) (lines : List Numbering) (k : ℕ) (log : Log) → IsNextHead run lines k → slice_get run k ≡ Some log → IsNext run lines (place log.proc (given_at lines k))
next_at run lines k log head log_at = let one : head.log ≡ log = (let h = head.log_at in cc) in rw one at head.next

no_event : (run : List Log) (table : Table) (lines : List Numbering) (k : ℕ) (log : Log) → Rising run → IsHead run table lines k End → slice_get run k ≡ Some log → IsEvent run (place log.proc (given_at lines k)) → ⊥
no_event run table lines k log rising is log_at event =
    let (l, j, b, at) = event_at run (place log.proc (given_at lines k)) event.0 event.1 in
    let same : l ≡ k = log_index run l k b.log log rising b.is_log log_at (sym (ap (λ (e : Place). e.proc) at)) in
    let at_j : suc (given_at lines k) ≡ suc j = ap (λ (e : Place). e.at) at in
    let lt = is j event.0 (rw same at b) in
    omega arith

-- the log of the next head has one
pub no_end : (run : List Log) (table : Table) (lines : List Numbering) (k : ℕ) → Rising run → IsHead run table lines k End → IsNextHead run lines k → ⊥
no_end run table lines k rising is head = no_event run table lines k head.log rising is head.log_at head.next.ready.event

module _ (run : List Log) (table : Table) (rising : Rising run) (is_table : IsTable run table) (lines : List Numbering) (fits : Fits run lines) (counts : List ℕ) (counted : Counts run table lines counts) (k : ℕ) where
  pub head_within : (h : Head) → IsHead run table lines k h → IsWithin h (length counts)
  head_within h is = grind (arith, class_within)

  pub head_ready : (h : Head) (log : Log) (r : Bool) → IsHead run table lines k h → slice_get run k ≡ Some log → (IsTrue r ↔ IsUnkept counts h) → IsTrue r ↔ IsReady run lines (place log.proc (given_at lines k))
  head_ready End log r is log_at decides = (λ t. absurd (decides.0 t), λ ready. absurd (no_event run table lines k log rising is log_at ready.event))
  head_ready Alone log r (x, a, alone) log_at decides =
      let one : a.log ≡ log = (let h = a.is_log in cc) in
      (λ _. rw one at (alone_ready run table rising is_table lines fits k (given_at lines k) x a refl alone), λ _. decides.1 tt)
  head_ready (Class c) log r (x, a, in_c) log_at decides =
      let one : a.log ≡ log = (let h = a.is_log in cc) in
      rw one at (ready_counted run table rising is_table lines fits k (given_at lines k) x a c in_c counts r (omega arith) counted (head_within (Class c) (x, a, in_c)) decides)
