-- What the line of a send or a delivery has before the number of its message (docs/SPECIFICATIONS.md, "Run text").
use Rattle.std.specs.Prelude.{List, [], ℕ, codes, Ok, Err, Bool, false, ◌≡◌, ◌≤◌, ◌==◌, if◌then◌else◌, length, take}
use Rattle.totem_names.specs.declared.fault.TextFault.TheVariants as faults
use Rattle.totem_names.specs.declared.version.Version.{Version}
use Rattle.totem_names.specs.Sources.{Parsed, Settles, ◌>>=◌}
use Rattle.totem_names.specs.Numbers.{byte_at, word_at}
use Rattle.totem_names.specs.Parsers.{conf_at, ring_at}
use Rattle.totem_names.specs.Services.{service_at}
use Rattle.totem_evs.specs.declared.entry.Entry.{Entry}
use Rattle.totem_evs.specs.declared.entry.Entry.TheVariants as entries
use Rattle.totem_evs.specs.declared.lines.Line.TheVariants as lines
use Rattle.totem_evs.specs.Missing.{members_of}
use Rattle.totem_evs.specs.RunGrammar.{line_at}
use Rattle.totem_evs.specs.declared.repeats.Said.{Said}
use Rattle.totem_evs.specs.declared.repeats.Said.TheVariants.{Send, Deliver}

-- a send, after its first letter
unfoldable pub send_start : List ℕ → Parsed Said
send_start bytes = do
  w ← word_at faults.Word (codes "end ") bytes
  x ← conf_at 32 w.1
  service ← service_at x.1
  space ← word_at faults.Word (codes " ") service.1
  ring ← ring_at 35 space.1
  Ok (Send ring.0 x.0 service.0, ring.1)

-- a delivery, after its first letter
unfoldable pub delivery_start : List ℕ → Parsed Said
delivery_start bytes = do
  w ← word_at faults.Word (codes "lv ") bytes
  x ← conf_at 32 w.1
  ring ← ring_at 35 x.1
  Ok (Deliver ring.0 x.0, ring.1)

-- one or the other
unfoldable pub start_at : List ℕ → Parsed Said
start_at bytes = do
  b ← byte_at bytes
  if b.0 == 115 then send_start b.1 else if b.0 == 100 then delivery_start b.1 else Err faults.Word

-- the entry of such a line, with the number of its message
abbrev pub entry_of : Said → ℕ → Entry
entry_of (Send ring x service) n = entries.Send (record { ring = ring; number = n }) x service
entry_of (Deliver ring x) n = entries.Deliver (record { ring = ring; number = n }) x

-- the bytes begin with the line of this entry, which takes so many of them
pub record BeginsWith (bytes : List ℕ) (e : Entry) (count : ℕ) : Type 0 where
  pub settles : (version : Version) (some failed : Bool) → Settles (line_at version false some failed) (take count bytes) (lines.Entry e)
  pub members : members_of e ≡ []
  pub within : count ≤ length bytes
