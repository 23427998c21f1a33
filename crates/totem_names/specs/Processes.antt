-- Processes of a run and places of their logs as text: with lives where the version of the text writes them.
use Rattle.std.specs.Prelude.{◌≡◌, ℕ, List, ◌++◌, codes, decimal, Ok, Err, Bool, true, false, ◌==◌, if◌then◌else◌}
use Rattle.totem_names.specs.declared.version.Version.{Version}
use Rattle.totem_names.specs.declared.version.Version.TheVariants.{One, Two, Three}
use Rattle.totem_names.specs.declared.fault.TextFault.TheVariants.{Word}
use Rattle.totem_names.specs.Names.{PlaceName}
use Rattle.totem_names.specs.Sources.{Parsed, ◌>>=◌}
use Rattle.totem_names.specs.Numbers.{number_at, number_to}
use Rattle.totem_names.specs.Ranks.{rank_of, id_of, life_of}
use Rattle.totem_names.specs.Texts.{IsUpTo, IsProcess}

-- whether texts of this version write lives
abbrev pub writes_lives : Version → Bool
writes_lives One = false
writes_lives Two = true
writes_lives Three = true

-- ---- spellings

-- a process with its life: its identifier, a colon, its life
abbrev pub life_text : ℕ → List ℕ
life_text rank = decimal (id_of rank) ++ codes ":" ++ decimal (life_of rank)

-- a process as texts of this version write it
abbrev pub process_text : Version → ℕ → List ℕ
process_text version rank = if writes_lives version then life_text rank else decimal (id_of rank)

-- the first version whose texts can write a process
abbrev pub first_version : ℕ → Version
first_version rank = if life_of rank == 1 then One else Two

-- a place as texts of this version write it: its process, an at sign, its entry
abbrev pub place_text_in : Version → PlaceName → List ℕ
place_text_in version e = process_text version e.proc ++ codes "@" ++ decimal e.at

-- a place where no version is known: its process as written by the first version that can write it
abbrev pub place_text : PlaceName → List ℕ
place_text e = place_text_in (first_version e.proc) e

-- a process that texts of this version can write: its parts are in range, and its life is 1 where none is written
pub record IsProcessIn (version : Version) (rank : ℕ) : Type 0 where
  pub id_fits : IsProcess (id_of rank)
  pub life_fits : IsUpTo 65535 (life_of rank)
  pub first : writes_lives version ≡ false → life_of rank ≡ 1

-- a place that texts of this version can write
pub record IsPlaceIn (version : Version) (e : PlaceName) : Type 0 where
  pub proc_fits : IsProcessIn version e.proc
  pub at_fits : IsUpTo 4294967295 e.at

-- ---- parsers

-- a process of life 1, which is not written, and the byte after it
unfoldable pub first_life_then : List ℕ → Parsed (ℕ × ℕ)
first_life_then bytes = do
  id ← number_at 65535 bytes
  Ok ((rank_of id.0.0 1, id.0.1), id.1)

-- a process with its life, and the byte after it
unfoldable pub life_then : List ℕ → Parsed (ℕ × ℕ)
life_then bytes = do
  id ← number_to 65535 58 bytes
  life ← number_at 65535 id.1
  Ok ((rank_of id.0 life.0.0, life.0.1), life.1)

-- a process of a text of this version, and the byte after it
unfoldable pub process_then : Version → List ℕ → Parsed (ℕ × ℕ)
process_then version bytes = if writes_lives version then life_then bytes else first_life_then bytes

-- a process of a text of this version, with this byte after it
unfoldable pub process_to : Version → ℕ → List ℕ → Parsed ℕ
process_to version end bytes = do
  p ← process_then version bytes
  if p.0.1 == end then Ok (p.0.0, p.1) else Err Word

-- a place in a text of this version: a process, an at sign, its entry, and the byte end after it
unfoldable pub place_at : Version → ℕ → List ℕ → Parsed PlaceName
place_at version end bytes = do
  proc ← process_to version 64 bytes
  entry ← number_to 4294967295 end proc.1
  Ok (record { proc = proc.0; at = entry.0 }, entry.1)
