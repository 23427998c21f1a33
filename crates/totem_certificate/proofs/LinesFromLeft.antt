-- Ascending lines and their numbers, from left to right.
use Rattle.totem_certificate.proofs.Common.{ℕ, ◌<◌, ◌≤◌, List, ◌∷◌, length, arith, AllByRecursion, All-from_recursion, recursion_from_All, Version, Numbering, IsNumber, IsNumbers, IsLineIn, IsCertificateIn}
use Rattle.totem_evs.proofs.FromLeft.{rank_above}
use Rattle.totem_evs.proofs.RisingRecords.{RecordsRise, RecordsFrom, rise_each, rise_pairs, rise_from_none, RiseLoosely, LooselyFrom, rise_loosely, loosely_pairs, loosely_each}
use Rattle.totem_certificate.specs.CertFronts.{IsLooseCertificate}

-- ---- numbers

-- one or more, and at most `room` of them
pub record NumbersFrom (room : ℕ) (ns : List ℕ) : Type 0 where
  pub some : 0 < length ns
  pub few : length ns ≤ room
  pub each : AllByRecursion IsNumber ns

pub are_numbers : (ns : List ℕ) → NumbersFrom 1000000 ns → IsNumbers ns
are_numbers ns h = record { some = h.some; few = h.few; each = All-from_recursion IsNumber ns h.each }

pub numbers_from : (ns : List ℕ) → IsNumbers ns → NumbersFrom 1000000 ns
numbers_from ns is = record { some = is.some; few = is.few; each = recursion_from_All IsNumber ns is.each }

-- ---- lines

abbrev pub proc_of : Numbering → ℕ
proc_of line = line.proc

-- above `last`, ascending, and each can be written in texts of this version
abbrev pub LinesRise : Version → ℕ → List Numbering → Type 0
LinesRise version last lines = RecordsRise proc_of (IsLineIn version) last lines

abbrev pub LinesFrom : Version → ℕ → ℕ → List Numbering → Type 0
LinesFrom version room last lines = RecordsFrom proc_of (IsLineIn version) room last lines

pub is_certificate : (version : Version) (lines : List Numbering) → LinesFrom version 33 0 lines → IsCertificateIn version lines
is_certificate version lines h = record {
  few = omega (arith, h.few);
  rising = rise_pairs proc_of (IsLineIn version) 0 lines h.rises;
  each = All-from_recursion (IsLineIn version) lines (rise_each proc_of (IsLineIn version) 0 lines h.rises);
}

pub certificate_from : (version : Version) (lines : List Numbering) → IsCertificateIn version lines → LinesFrom version 33 0 lines
certificate_from version lines is = grind (arith, rise_from_none, rank_above, recursion_from_All)

-- ---- lines that are ascending except for the last

abbrev pub LooseLinesFrom : Version → ℕ → ℕ → List Numbering → Type 0
LooseLinesFrom version room last lines = LooselyFrom proc_of (IsLineIn version) (IsLineIn version) room last lines

pub line_loosely : (version : Version) (last : ℕ) (l : Numbering) (ls : List Numbering) → last < l.proc → IsLineIn version l → RiseLoosely proc_of (IsLineIn version) (IsLineIn version) l.proc ls → RiseLoosely proc_of (IsLineIn version) (IsLineIn version) last (l ∷ ls)
line_loosely version last l ls above is h = rise_loosely proc_of (IsLineIn version) (IsLineIn version) last l ls above is is h

pub is_loose_certificate : (version : Version) (lines : List Numbering) → LooseLinesFrom version 33 0 lines → IsLooseCertificate version lines
is_loose_certificate version lines h = record {
  few = omega (arith, h.few);
  rising = loosely_pairs proc_of (IsLineIn version) (IsLineIn version) 0 lines h.rises;
  each = All-from_recursion (IsLineIn version) lines (loosely_each proc_of (IsLineIn version) (IsLineIn version) 0 lines (λ line is. is) h.rises);
}
