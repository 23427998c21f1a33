-- How many entries keep each class from being ready. The classes are numbered by a table.
use Rattle.std.specs.Prelude.{◌≡◌, ℕ, zero, suc, ◌+◌, ◌-◌, ◌<◌, ◌≤◌, ◌==◌, if◌then◌else◌, List, [], ◌∷◌, ◌++◌, length, slice_get, slice_set, slice_index_or, Option, Some, None}
use Rattle.totem_evs.specs.declared.entry.Entry.{Entry}
use Rattle.totem_evs.specs.declared.entry.Entry.TheVariants.{Conf, Send, Deliver, Fail}
use Rattle.totem_evs.specs.declared.log.Log.{Log}
use Rattle.totem_evs.specs.Certificates.{Numbering}
use Rattle.totem_table.specs.declared.kind.Kind.{Kind}
use Rattle.totem_table.specs.declared.kind.Kind.TheVariants.{Change, Sending, Delivery, Failure}
use Rattle.totem_table.specs.declared.table.Table.{Table}
use Rattle.totem_table.specs.Tables.{number_at}

-- how many numbers the line has, if there is one
abbrev pub count_of : Option Numbering → ℕ
count_of (Some line) = length line.numbers
count_of None = 0

-- how many entries of the k-th log have a number
abbrev pub given_at : List Numbering → ℕ → ℕ
given_at lines k = count_of (slice_get lines k)

-- f 0 + .. + f (n - 1)
abbrev pub sum_to : ℕ → (ℕ → ℕ) → ℕ
sum_to zero f = 0
sum_to (suc n) f = sum_to n f + f n

-- the class of an entry with the number n in the table: its message's, or its configuration's, which come after those of all messages
abbrev pub class_in : ℕ → Entry → ℕ → Option ℕ
class_in messages (Conf x ms) n = Some (messages + n)
class_in messages (Send m x s) n = None
class_in messages (Deliver m x) n = Some n
class_in messages (Fail x) n = None

-- the class of the entry at i of the log at k
abbrev pub class_at : Table → ℕ → ℕ → Entry → Option ℕ
class_at table k i entry = class_in (length table.messages.items) entry (number_at table k i)

-- the class that a send feeds
abbrev pub class_fed : Entry → ℕ → Option ℕ
class_fed (Conf x ms) n = None
class_fed (Send m x s) n = Some n
class_fed (Deliver m x) n = None
class_fed (Fail x) n = None

-- the class that an entry of this kind feeds
abbrev pub class_fed_by : Kind → ℕ → Option ℕ
class_fed_by Change n = None
class_fed_by Sending n = Some n
class_fed_by Delivery n = None
class_fed_by Failure n = None

-- the class that an entry behind the head of its log keeps: the one that a send feeds, or its own
abbrev pub class_kept : ℕ → Entry → ℕ → Option ℕ
class_kept messages (Conf x ms) n = Some (messages + n)
class_kept messages (Send m x s) n = Some n
class_kept messages (Deliver m x) n = Some n
class_kept messages (Fail x) n = None

-- 1 for the given class, 0 for any other
abbrev pub one : Option ℕ → ℕ → ℕ
one None c = 0
one (Some n) c = if n == c then 1 else 0

-- how many of these entries keep class c as sends, or as entries of the class if none of them is the head of its log
abbrev pub kept_behind : ℕ → List Entry → List ℕ → ℕ → ℕ
kept_behind messages [] row c = 0
kept_behind messages (entry ∷ entries) [] c = 0
kept_behind messages (entry ∷ entries) (n ∷ row) c = one (class_fed entry n) c + one (class_in messages entry n) c + kept_behind messages entries row c

-- how many entries of a log keep class c if `given` of them have numbers
abbrev pub kept_in : ℕ → ℕ → List Entry → List ℕ → ℕ → ℕ
kept_in messages given [] row c = 0
kept_in messages given (entry ∷ entries) [] c = 0
kept_in messages zero (entry ∷ entries) (n ∷ row) c = one (class_fed entry n) c + kept_behind messages entries row c
kept_in messages (suc given) (entry ∷ entries) (n ∷ row) c = kept_in messages given entries row c

abbrev pub entries_of : Option Log → List Entry
entries_of None = []
entries_of (Some log) = log.entries

-- how many entries of the k-th log keep class c if `given` of them have numbers
abbrev pub kept_at : List Log → Table → ℕ → ℕ → ℕ → ℕ
kept_at run table given c k = kept_in (length table.messages.items) given (entries_of (slice_get run k)) (slice_index_or table.rows.items k []) c

-- how many entries of the run keep class c
abbrev pub kept_by : List Log → Table → List Numbering → ℕ → ℕ
kept_by run table lines c = sum_to (length run) (λ k. kept_at run table (given_at lines k) c k)

-- the counts have the number of entries of the first k logs that keep each class
pub record CountsTo (run : List Log) (table : Table) (lines : List Numbering) (counts : List ℕ) (k : ℕ) : Type 0 where
  pub long : length counts ≡ length table.messages.items + length table.confs.items
  pub each : (c : ℕ) → c < length counts → slice_index_or counts c 0 ≡ sum_to k (λ j. kept_at run table (given_at lines j) c j)

-- the counts have the number of entries that keep each class
abbrev pub Counts : List Log → Table → List Numbering → List ℕ → Type 0
Counts run table lines counts = CountsTo run table lines counts (length run)

abbrev pub fed_by : Option Entry → ℕ → Option ℕ
fed_by None n = None
fed_by (Some entry) n = class_fed entry n

abbrev pub shared_by : ℕ → Option Entry → ℕ → Option ℕ
shared_by messages None n = None
shared_by messages (Some entry) n = class_in messages entry n

-- how many entries no longer keep class c once the entry at `head` gets its number
abbrev pub passed : ℕ → List Entry → List ℕ → ℕ → ℕ → ℕ
passed messages entries row head c = one (fed_by (slice_get entries head) (slice_index_or row head 0)) c + one (shared_by messages (slice_get entries (suc head)) (slice_index_or row (suc head) 0)) c

-- each count has grown by f
pub record Adds (old new : List ℕ) (f : ℕ → ℕ) : Type 0 where
  pub long : length new ≡ length old
  pub each : (c : ℕ) → c < length new → slice_index_or new c 0 ≡ slice_index_or old c 0 + f c

-- each count has shrunk by f
pub record Takes (old new : List ℕ) (f : ℕ → ℕ) : Type 0 where
  pub long : length new ≡ length old
  pub each : (c : ℕ) → c < length new → slice_index_or new c 0 ≡ slice_index_or old c 0 - f c

pub record AtMost (counts : List ℕ) (most : ℕ) : Type 0 where
  pub each : (c : ℕ) → slice_index_or counts c 0 ≤ most

-- only the line at k has changed: its next entry got number n
pub record Pushes (old new : List Numbering) (k n : ℕ) : Type 0 where
  pub line : Numbering
  pub line_at : slice_get old k ≡ Some line
  pub is : new ≡ slice_set old k (record line { numbers = line.numbers ++ n ∷ [] })

-- the k-th log has an entry without a number
pub record HasHead (log : Log) (lines : List Numbering) (k : ℕ) : Type 0 where
  pub line : Numbering
  pub line_at : slice_get lines k ≡ Some line
  pub more : length line.numbers < length log.entries
