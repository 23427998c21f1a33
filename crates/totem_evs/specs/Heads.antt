-- What the texts of runs and of certificates have in common: a first line with the version of the text, records in
-- ascending order of their processes, each begun by a word and its process, and a last line (docs/SPECIFICATIONS.md, "Run text" and
-- "Certificate text").
use Rattle.std.specs.Prelude.{◌≡◌, ℕ, zero, suc, List, [], ◌∷◌, ◌++◌, codes, Option, Some, None, Ok, Err, Bool, true, ◌&&◌, nat_le, ◌==◌, if◌then◌else◌}
use Rattle.totem_names.specs.declared.fault.TextFault.TheVariants as faults
use Rattle.totem_names.specs.Sources.{Parsed, ◌>>=◌}
use Rattle.totem_names.specs.Numbers.{byte_at, word_at}
use Rattle.totem_names.specs.declared.version.Version.{Version}
use Rattle.totem_names.specs.declared.version.Version.TheVariants.{One, Two, Three}
use Rattle.totem_names.specs.Processes.{process_then}
use Rattle.totem_evs.specs.RunText.{line, version_digit}

-- what differs: the words of the first line before its version; whether there is a third version; and in the line that
-- begins a record, its first letter, what follows up to the process, and the byte after the process
pub record Words : Type 0 where
  pub title : List ℕ
  pub third : Bool
  pub letter : ℕ
  pub word : List ℕ
  pub behind : ℕ

-- there are texts of this version
abbrev pub HasVersion : Words → Version → Type 0
HasVersion words One = Unit {0}
HasVersion words Two = Unit {0}
HasVersion words Three = words.third ≡ true

-- the first line of a text
abbrev pub first_line : Words → Version → List ℕ
first_line words version = line (words.title ++ version_digit version ∷ [])

-- the process of a record, above `last`, and the byte after it
unfoldable pub proc_at : Words → Version → ℕ → List ℕ → Parsed ℕ
proc_at words version last bytes = do
  w ← word_at faults.Word words.word bytes
  p ← process_then version w.1
  if nat_le p.0.0 last then Err faults.Order else if p.0.1 == words.behind then Ok (p.0.0, p.1) else Err faults.Word

-- a record up to and including the byte after its process; full: no further record is allowed
unfoldable pub begin_at : Words → Version → Bool → ℕ → List ℕ → Parsed (Option ℕ)
begin_at words version full last bytes = if full then Err faults.TooMany else do
  p ← proc_at words version last bytes
  Ok (Some p.0, p.1)

-- the last line
unfoldable pub end_at : List ℕ → Parsed (Option ℕ)
end_at bytes = do
  w ← word_at faults.Word (line (codes "nd")) bytes
  Ok (None, w.1)

-- the beginning of the next record, or the last line
unfoldable pub head_at : Words → Version → Bool → ℕ → List ℕ → Parsed (Option ℕ)
head_at words version full last bytes = do
  b ← byte_at bytes
  if b.0 == words.letter then begin_at words version full last b.1 else if b.0 == 101 then end_at b.1 else Err faults.Word

-- one value for the last line, another for a record
abbrev pub by_head : {Y : Type 0} → Option ℕ → Y → (ℕ → Y) → Y
by_head None ends begins = ends
by_head (Some p) ends begins = begins p

-- the further records, fewer than `room`, and the last line; `rest_at` reads what follows the process of a record,
-- and the record is made of both
unfoldable pub records_at : {X R : Type 0} → Words → (Version → ℕ → List ℕ → Parsed X) → (ℕ → X → R) → Version → ℕ → ℕ → List ℕ → Parsed (List R)
records_at words rest_at made version zero last bytes = Err faults.TooMany
records_at words rest_at made version (suc room) last bytes = do
  head ← head_at words version (room == 0) last bytes
  by_head head.0 (Ok ([], head.1)) (λ p. rest_at version p head.1 >>= λ x. records_at words rest_at made version room p x.1 >>= λ others. Ok (made p x.0 ∷ others.0, others.1))

-- the end of the first line of a text of this version
unfoldable pub header_end : Version → List ℕ → Parsed Version
header_end version bytes = do
  w ← word_at faults.Header (line []) bytes
  Ok (version, w.1)

-- the first line
unfoldable pub header_at : Words → List ℕ → Parsed Version
header_at words bytes = do
  w ← word_at faults.Header words.title bytes
  v ← byte_at w.1
  if v.0 == 49 then header_end One v.1
      else if v.0 == 50 then header_end Two v.1
      else if words.third && (v.0 == 51) then header_end Three v.1
      else Err faults.Header
