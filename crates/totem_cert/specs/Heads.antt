-- The first entries of logs without a number.
use Rattle.std.specs.Prelude.{◌≡◌, ℕ, ◌<◌, List, slice_index_or, Option, Some, None}
use Rattle.totem_evs.specs.declared.entry.Entry.{Entry}
use Rattle.totem_evs.specs.declared.log.Log.{Log}
use Rattle.totem_evs.specs.Certificates.{Numbering}
use Rattle.totem_table.specs.declared.table.Table.{Table}
use Rattle.totem_table.specs.Tables.{IsEntryAt}
use Rattle.totem_cert.specs.declared.heads.Head.{Head}
use Rattle.totem_cert.specs.declared.heads.Head.TheVariants.{End, Alone, Class}
use Rattle.totem_cert.specs.Counts.{class_at, given_at}

-- the head of the k-th log: it has none, or the head is alone in its class, or in class c
abbrev pub IsHead : List Log → Table → List Numbering → ℕ → Head → Type 0
IsHead run table lines k End = (i : ℕ) (entry : Entry) → IsEntryAt run k i entry → i < given_at lines k
IsHead run table lines k Alone = (entry : Entry) × IsEntryAt run k (given_at lines k) entry × (class_at table k (given_at lines k) entry ≡ None)
IsHead run table lines k (Class c) = (entry : Entry) × IsEntryAt run k (given_at lines k) entry × (class_at table k (given_at lines k) entry ≡ Some c)

-- a head that is in a class with others feeds none
abbrev pub FeedsAlone : Head → Option ℕ → Type 0
FeedsAlone End fed = Unit {0}
FeedsAlone Alone fed = Unit {0}
FeedsAlone (Class c) fed = fed ≡ None

-- the head's class is one of the first n
abbrev pub IsWithin : Head → ℕ → Type 0
IsWithin End n = Unit {0}
IsWithin Alone n = Unit {0}
IsWithin (Class c) n = c < n

-- there is a head, and nothing keeps its class from being ready
abbrev pub IsUnkept : List ℕ → Head → Type 0
IsUnkept counts End = ⊥
IsUnkept counts Alone = Unit {0}
IsUnkept counts (Class c) = slice_index_or counts c 0 ≡ 0
