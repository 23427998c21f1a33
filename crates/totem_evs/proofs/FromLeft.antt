-- Ascending lists, from left to right.
use Rattle.totem_evs.proofs.Common.{ℕ, ◌<◌, ◌≤◌, List, length, arith, All-from_recursion, recursion_from_All, Version, IsProcessIn, id_of, IsMembersIn, IsLogIn, IsRunIn}
use Rattle.totem_evs.specs.declared.log.Log.{Log}
use Rattle.totem_evs.proofs.RisingRecords.{RecordsRise, RecordsFrom, rise_each, rise_pairs, rise_from_none}

-- ---- members

-- identifiers above `last` and ascending, of processes that texts of this version can write
abbrev pub Rises : Version → ℕ → List ℕ → Type 0
Rises version last ms = RecordsRise id_of (IsProcessIn version) last ms

pub record MembersFrom (version : Version) (room last : ℕ) (ms : List ℕ) : Type 0 where
  pub some : 0 < length ms
  pub few : length ms ≤ room
  pub rises : Rises version last ms

pub are_members : (version : Version) (ms : List ℕ) → MembersFrom version 32 0 ms → IsMembersIn version ms
are_members version ms h = record {
  some = h.some;
  few = h.few;
  rising = rise_pairs id_of (IsProcessIn version) 0 ms h.rises;
  processes = All-from_recursion (IsProcessIn version) ms (rise_each id_of (IsProcessIn version) 0 ms h.rises);
}

pub members_from : (version : Version) (ms : List ℕ) → IsMembersIn version ms → MembersFrom version 32 0 ms
members_from version ms is = grind (arith, rise_from_none, recursion_from_All)

-- ---- logs

abbrev pub proc_of : Log → ℕ
proc_of log = log.proc

-- above `last`, ascending, and each of this kind
abbrev pub LogsFrom : (Log → Type 0) → ℕ → ℕ → List Log → Type 0
LogsFrom L room last logs = RecordsFrom proc_of L room last logs

pub is_run : (version : Version) (logs : List Log) → LogsFrom (IsLogIn version) 33 0 logs → IsRunIn version logs
is_run version logs h = record {
  few = omega (arith, h.few);
  rising = rise_pairs proc_of (IsLogIn version) 0 logs h.rises;
  each = All-from_recursion (IsLogIn version) logs (rise_each proc_of (IsLogIn version) 0 logs h.rises);
}

-- an identifier above 0 makes a rank above 0
pub rank_above : (p : ℕ) → 0 < id_of p → 0 < p
rank_above p h = omega (arith, h)

pub run_from : (version : Version) (logs : List Log) → IsRunIn version logs → LogsFrom (IsLogIn version) 33 0 logs
run_from version logs is = grind (arith, rise_from_none, rank_above, recursion_from_All)
