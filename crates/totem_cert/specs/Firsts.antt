-- The first entries and sends of each class that have no number. The classes are numbered by a table.
use Rattle.std.specs.Prelude.{◌≡◌, ◌⊎◌, ℕ, ◌+◌, ◌<◌, ◌≤◌, nat_le, nat_lt, if◌then◌else◌, List, length, slice_get, Option, Some, None}
use Rattle.totem_names.specs.declared.place.Place.{Place}
use Rattle.totem_evs.specs.declared.entry.Entry.{Entry}
use Rattle.totem_evs.specs.declared.log.Log.{Log}
use Rattle.totem_evs.specs.Certificates.{Numbering}
use Rattle.totem_table.specs.declared.table.Table.{Table}
use Rattle.totem_table.specs.Tables.{IsEntryAt, number_at}
use Rattle.totem_cert.specs.declared.firsts.Firsts.{Firsts}
use Rattle.totem_cert.specs.declared.firsts.Wanted.{Wanted}
use Rattle.totem_cert.specs.declared.firsts.Wanted.TheVariants.{Sends, Members, Followers}
use Rattle.totem_cert.specs.Search.{place}
use Rattle.totem_cert.specs.Counts.{class_in, class_fed, given_at}

-- the class for which the entry at i of a log is wanted, if `given` entries of the log have numbers
abbrev pub class_wanted : Wanted → ℕ → ℕ → ℕ → Entry → ℕ → Option ℕ
class_wanted Sends messages given i entry n = if nat_le given i then class_fed entry n else None
class_wanted Members messages given i entry n = if nat_le given i then class_in messages entry n else None
class_wanted Followers messages given i entry n = if nat_lt given i then class_in messages entry n else None

-- the entry at i of the log at k is wanted for class c
pub record IsWanted (run : List Log) (table : Table) (lines : List Numbering) (wanted : Wanted) (c k i : ℕ) : Type 0 where
  pub entry : Entry
  pub at : IsEntryAt run k i entry
  pub class : class_wanted wanted (length table.messages.items) (given_at lines k) i entry (number_at table k i) ≡ Some c

-- e is the first entry that is wanted for class c
pub record IsFirst (run : List Log) (table : Table) (lines : List Numbering) (wanted : Wanted) (c : ℕ) (e : Place) : Type 0 where
  pub k : ℕ
  pub i : ℕ
  pub is_wanted : IsWanted run table lines wanted c k i
  pub is : e ≡ place is_wanted.at.log.proc i
  pub first : (l j : ℕ) → IsWanted run table lines wanted c l j → (k < l) ⊎ ((k ≡ l) × (i ≤ j))

-- the entry at j of the log at l is in a log before the one at k, or among the first i entries of that one
abbrev pub IsPast : ℕ → ℕ → ℕ → ℕ → Type 0
IsPast k i l j = (l < k) ⊎ ((l ≡ k) × (j < i))

-- `firsts` has the first wanted entry of each class that has one among the entries so far
pub record AreFirstsTo (run : List Log) (table : Table) (lines : List Numbering) (wanted : Wanted) (firsts : List (Option Place)) (k i : ℕ) : Type 0 where
  pub long : length firsts ≡ length table.messages.items + length table.confs.items
  pub none : (c l j : ℕ) → slice_get firsts c ≡ Some None → IsPast k i l j → IsWanted run table lines wanted c l j → ⊥
  pub found : (c : ℕ) (e : Place) → slice_get firsts c ≡ Some (Some e) → IsFirst run table lines wanted c e

-- `firsts` has the first wanted entry of each class that has one
abbrev pub AreFirsts : List Log → Table → List Numbering → Wanted → List (Option Place) → Type 0
AreFirsts run table lines wanted firsts = AreFirstsTo run table lines wanted firsts (length run) 0

-- these are the first places of each class that have no number
pub record AreFirstsOf (run : List Log) (table : Table) (lines : List Numbering) (firsts : Firsts) : Type 0 where
  pub sends : AreFirsts run table lines Sends firsts.sends.items
  pub members : AreFirsts run table lines Members firsts.members.items
  pub followers : AreFirsts run table lines Followers firsts.followers.items

-- the place was noted for the class, if it had none
pub record Notes (old new : List (Option Place)) (class : Option ℕ) (e : Place) : Type 0 where
  pub long : length new ≡ length old
  pub each : (c : ℕ) → ((slice_get new c ≡ slice_get old c) × (class ≡ Some c → slice_get old c ≡ Some None → ⊥))
      ⊎ ((class ≡ Some c) × (slice_get old c ≡ Some None) × (slice_get new c ≡ Some (Some e)))
