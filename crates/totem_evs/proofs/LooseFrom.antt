-- Lists that are ascending except for their last element, from left to right.
use Rattle.std.proofs.lemmas.Grind.{common_steps}
use Rattle.totem_evs.proofs.Common.{ℕ, ◌<◌, ◌≤◌, List, [], ◌∷◌, length, arith, AllByRecursion, All-from_recursion, recursion_from_All, Version, IsProcessIn, id_of, IsMembersIn, IsEntryIn, IsLogIn, but_last, IsLooseMembers, IsLooseEntry, IsLooseEntries, IsLooseLog, IsLooseRun}
use Rattle.totem_evs.specs.declared.entry.Entry.{Entry}
use Rattle.totem_evs.specs.declared.entry.Entry.TheVariants.{Conf, Send, Deliver, Fail}
use Rattle.totem_evs.specs.declared.log.Log.{Log}
use Rattle.totem_evs.proofs.FromLeft.{members_from, proc_of}
use Rattle.totem_evs.proofs.RisingRecords.{RiseLoosely, LooselyFrom, rise_loosely, rises_loosely, loosely_pairs, loosely_before, loosely_each}

-- ---- members

-- processes that texts of this version can write, whose identifiers are above `last` and ascending, except for the last
abbrev pub RisesLoosely : Version → ℕ → List ℕ → Type 0
RisesLoosely version last ms = RiseLoosely id_of (IsProcessIn version) (IsProcessIn version) last ms

pub record LooseMembersFrom (version : Version) (room last : ℕ) (ms : List ℕ) : Type 0 where
  pub some : 0 < length ms
  pub few : length ms ≤ room
  pub rises : RisesLoosely version last ms

pub loose_member : (version : Version) (last p : ℕ) (ps : List ℕ) → last < id_of p → IsProcessIn version p → RisesLoosely version (id_of p) ps → RisesLoosely version last (p ∷ ps)
loose_member version last p ps above is h = rise_loosely id_of (IsProcessIn version) (IsProcessIn version) last p ps above is is h

pub are_loose_members : (version : Version) (ms : List ℕ) → LooseMembersFrom version 32 0 ms → IsLooseMembers version ms
are_loose_members version ms h = record {
  some = h.some;
  few = h.few;
  rising = loosely_pairs id_of (IsProcessIn version) (IsProcessIn version) 0 ms h.rises;
  processes = All-from_recursion (IsProcessIn version) ms (loosely_each id_of (IsProcessIn version) (IsProcessIn version) 0 ms (λ p is. is) h.rises);
}

members_loosely : (version : Version) (ms : List ℕ) → IsMembersIn version ms → IsLooseMembers version ms
members_loosely version ms is = are_loose_members version ms (record { some = is.some; few = is.few; rises = rises_loosely id_of (IsProcessIn version) (IsProcessIn version) 0 ms (λ p is. is) (members_from version ms is).rises })

-- ---- entries

pub loose_entry : (version : Version) (e : Entry) → IsEntryIn version e → IsLooseEntry version e
loose_entry version (Conf x members) is = (is.0, members_loosely version members is.1)
loose_entry version (Send m x service) is = is
loose_entry version (Deliver m x) is = is
loose_entry version (Fail x) is = is

-- entries of which the last is such an entry
abbrev pub EachLoosely : Version → List Entry → Type 0
EachLoosely version [] = Unit {0}
EachLoosely version (e ∷ []) = IsLooseEntry version e
EachLoosely version (e ∷ f ∷ es) = IsEntryIn version e × EachLoosely version (f ∷ es)

pub entry_loosely : (version : Version) (e : Entry) (es : List Entry) → IsEntryIn version e → EachLoosely version es → EachLoosely version (e ∷ es)
entry_loosely version e [] is h = loose_entry version e is
entry_loosely version e (f ∷ es) is h = (is, h)

entries_before : (version : Version) (es : List Entry) → EachLoosely version es → AllByRecursion (IsEntryIn version) (but_last es)
entries_before version [] h = tt
entries_before version (e ∷ []) h = tt
entries_before version (e ∷ f ∷ es) h = (h.0, entries_before version (f ∷ es) h.1)

entries_each : (version : Version) (es : List Entry) → EachLoosely version es → AllByRecursion (IsLooseEntry version) es
entries_each version [] h = tt
entries_each version (e ∷ []) h = (h, tt)
entries_each version (e ∷ f ∷ es) h = (loose_entry version e h.0, entries_each version (f ∷ es) h.1)

pub loose_entries : (version : Version) (es : List Entry) → 0 < length es → length es ≤ 1000000 → EachLoosely version es → IsLooseEntries version es
loose_entries version es some few h = grind (arith, common_steps, entries_before, entries_each)

all_loosely : (version : Version) (es : List Entry) → AllByRecursion (IsEntryIn version) es → EachLoosely version es
all_loosely version [] h = tt
all_loosely version (e ∷ es) h = entry_loosely version e es h.0 (all_loosely version es h.1)

-- ---- logs

loose_log : (version : Version) (log : Log) → IsLogIn version log → IsLooseLog version log
loose_log version log is = record {
  process = is.process;
  entries = loose_entries version log.entries is.entries.some is.entries.few (all_loosely version log.entries (recursion_from_All (IsEntryIn version) log.entries is.entries.each));
  ending = is.ending;
  word = is.word;
}

-- logs of which the last is such a log and need not be above the one before
abbrev pub LooseLogsFrom : Version → ℕ → ℕ → List Log → Type 0
LooseLogsFrom version room last logs = LooselyFrom proc_of (IsLogIn version) (IsLooseLog version) room last logs

pub log_loosely : (version : Version) (last : ℕ) (log : Log) (logs : List Log) → last < log.proc → IsLogIn version log → RiseLoosely proc_of (IsLogIn version) (IsLooseLog version) log.proc logs → RiseLoosely proc_of (IsLogIn version) (IsLooseLog version) last (log ∷ logs)
log_loosely version last log logs above is h = rise_loosely proc_of (IsLogIn version) (IsLooseLog version) last log logs above is (loose_log version log is) h

pub is_loose_run : (version : Version) (logs : List Log) → LooseLogsFrom version 33 0 logs → IsLooseRun version logs
is_loose_run version logs h = record {
  few = omega (arith, h.few);
  rising = loosely_pairs proc_of (IsLogIn version) (IsLooseLog version) 0 logs h.rises;
  before = All-from_recursion (IsLogIn version) (but_last logs) (loosely_before proc_of (IsLogIn version) (IsLooseLog version) 0 logs h.rises);
  each = All-from_recursion (IsLooseLog version) logs (loosely_each proc_of (IsLogIn version) (IsLooseLog version) 0 logs (loose_log version) h.rises);
}
