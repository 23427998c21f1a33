-- The grammar of a run's text, from left to right, with the fault of the first byte that breaks a rule
-- (docs/SPECIFICATIONS.md, "Run text").
use Rattle.totem_evs.specs.RunRecord.{RunRecord}
use Rattle.std.specs.Prelude.{ℕ, zero, suc, List, [], ◌∷◌, codes, Ok, Err, Bool, true, false, not, ◌&&◌, nat_le, ◌==◌, if◌then◌else◌}
use Rattle.totem_names.specs.declared.fault.TextFault.TheVariants as faults
use Rattle.totem_names.specs.Sources.{Parsed, ◌>>=◌}
use Rattle.totem_names.specs.Numbers.{byte_at, word_at}
use Rattle.totem_names.specs.declared.version.Version.{Version}
use Rattle.totem_names.specs.Processes.{process_then}
use Rattle.totem_names.specs.Ranks.{id_of}
use Rattle.totem_names.specs.Parsers.{message_at, conf_at}
use Rattle.totem_names.specs.Services.{service_at}
use Rattle.totem_evs.specs.declared.entry.Entry.{Entry}
use Rattle.totem_evs.specs.declared.entry.Entry.TheVariants.{Conf, Send, Deliver, Fail}
use Rattle.totem_evs.specs.declared.ending.Ending.{Ending}
use Rattle.totem_evs.specs.declared.ending.Ending.TheVariants.{Standing, Failed, Quiet}
use Rattle.totem_evs.specs.declared.lines.Line.{Line}
use Rattle.totem_evs.specs.declared.lines.Line.TheVariants as lines
use Rattle.totem_evs.specs.declared.log.Log.{Log}
use Rattle.totem_evs.specs.Endings.{writes_quiet}
use Rattle.totem_evs.specs.RunText.{line}
use Rattle.totem_evs.specs.Heads.{Words, records_at, header_at}

-- a failure
abbrev pub is_failure : Entry → Bool
is_failure (Conf x members) = false
is_failure (Send m x service) = false
is_failure (Deliver m x) = false
is_failure (Fail x) = true

-- members above the identifier `last`, and the line end after them; at most `room` of them
unfoldable pub members_at : Version → ℕ → ℕ → List ℕ → Parsed (List ℕ)
members_at version zero last bytes = Err faults.TooMany
members_at version (suc room) last bytes = do
  p ← process_then version bytes
  if nat_le (id_of p.0.0) last then Err faults.Members
      else if p.0.1 == 10 then Ok (p.0.0 ∷ [], p.1)
      else if p.0.1 == 32 then (members_at version room (id_of p.0.0) p.1 >>= λ others. Ok (p.0.0 ∷ others.0, others.1))
      else Err faults.Word

-- ---- the lines of a log, after their first letters; full: no further entry is allowed

-- a change
unfoldable pub change_at : Version → Bool → List ℕ → Parsed Line
change_at version full bytes = if full then Err faults.TooMany else do
  w ← word_at faults.Word (codes "onf ") bytes
  x ← conf_at 32 w.1
  members ← members_at version 32 0 x.1
  Ok (lines.Entry (Conf x.0 members.0), members.1)

-- a send
unfoldable pub send_at : Bool → List ℕ → Parsed Line
send_at full bytes = if full then Err faults.TooMany else do
  w ← word_at faults.Word (codes "end ") bytes
  x ← conf_at 32 w.1
  service ← service_at x.1
  space ← word_at faults.Word (codes " ") service.1
  m ← message_at 10 space.1
  Ok (lines.Entry (Send m.0 x.0 service.0), m.1)

-- a delivery
unfoldable pub delivery_at : Bool → List ℕ → Parsed Line
delivery_at full bytes = if full then Err faults.TooMany else do
  w ← word_at faults.Word (codes "lv ") bytes
  x ← conf_at 32 w.1
  m ← message_at 10 x.1
  Ok (lines.Entry (Deliver m.0 x.0), m.1)

-- the closing word of a log that has entries, the last of them no failure
unfoldable pub open_at : Bool → Bool → List ℕ → Parsed Line
open_at some failed bytes = if some && not failed then (do
  w ← word_at faults.Word (line (codes "pen")) bytes
  Ok (lines.Close Standing, w.1)) else Err faults.End

-- the closing word of such a log that is quiet, where texts have one
unfoldable pub quiet_at : Bool → Bool → Bool → List ℕ → Parsed Line
quiet_at written some failed bytes = if written then (if some && not failed then (do
  w ← word_at faults.Word (line (codes "uiet")) bytes
  Ok (lines.Close Quiet, w.1)) else Err faults.End) else Err faults.Word

-- the closing word of a log whose last entry is a failure
unfoldable pub failed_at : Bool → List ℕ → Parsed Line
failed_at failed bytes = if failed then (do
  w ← word_at faults.Word (line (codes "d")) bytes
  Ok (lines.Close Failed, w.1)) else Err faults.End

-- a failure
unfoldable pub fail_at : Bool → List ℕ → Parsed Line
fail_at full bytes = if full then Err faults.TooMany else do
  x ← conf_at 10 bytes
  Ok (lines.Entry (Fail x.0), x.1)

-- a failure, or the closing word of a log that ends in one
unfoldable pub ail_at : Bool → Bool → List ℕ → Parsed Line
ail_at full failed bytes = do
  w ← word_at faults.Word (codes "ail") bytes
  b ← byte_at w.1
  if b.0 == 101 then failed_at failed b.1 else if b.0 == 32 then fail_at full b.1 else Err faults.Word

-- the line that begins with the letter of both
unfoldable pub failure_at : Bool → Bool → List ℕ → Parsed Line
failure_at full failed bytes = if full && not failed then Err faults.TooMany else ail_at full failed bytes

-- the next line of a log that has some entries, the last of which is a failure, and may have more or is full
unfoldable pub line_at : Version → Bool → Bool → Bool → List ℕ → Parsed Line
line_at version full some failed bytes = do
  b ← byte_at bytes
  if b.0 == 99 then change_at version full b.1
      else if b.0 == 115 then send_at full b.1
      else if b.0 == 100 then delivery_at full b.1
      else if b.0 == 102 then failure_at full failed b.1
      else if b.0 == 111 then open_at some failed b.1
      else if b.0 == 113 then quiet_at (writes_quiet version) some failed b.1
      else Err faults.Word

-- one value for a closing word, another for an entry
abbrev pub by_line : {Y : Type 0} → Line → (Ending → Y) → (Entry → Y) → Y
by_line (lines.Close ending) close entry = close ending
by_line (lines.Entry e) close entry = entry e

-- the further lines of a log, fewer than `room` of them entries
unfoldable pub lines_at : Version → ℕ → Bool → Bool → List ℕ → Parsed (List Entry × Ending)
lines_at version zero some failed bytes = Err faults.TooMany
lines_at version (suc room) some failed bytes = do
  l ← line_at version (room == 0) some failed bytes
  by_line l.0 (λ ending. Ok (([], ending), l.1)) (λ e. lines_at version room true (is_failure e) l.1 >>= λ others. Ok ((e ∷ others.0.0, others.0.1), others.1))

-- the log of p, after its first line
unfoldable pub log_at : Version → ℕ → List ℕ → Parsed Log
log_at version p bytes = do
  body ← lines_at version 1000001 false false bytes
  Ok (record { proc = p; entries = body.0.0; ending = body.0.1 }, body.1)

-- the words of a run's text: `totem-run`, in three versions, and `log`, after whose process the line ends
abbrev pub run_words : Words
run_words = record { title = codes "totem-run "; third = true; letter = 108; word = codes "og "; behind = 10 }

-- the further logs, fewer than `room`, and the last line
abbrev pub logs_at : Version → ℕ → ℕ → List ℕ → Parsed (List Log)
logs_at version room last bytes = records_at run_words log_at (λ p log. log) version room last bytes

-- the text of a run
unfoldable pub run_at : List ℕ → Parsed RunRecord
run_at bytes = do
  v ← header_at run_words bytes
  logs ← logs_at v.0 33 0 v.1
  Ok (record { version = v.0; logs = logs.0 }, logs.1)
