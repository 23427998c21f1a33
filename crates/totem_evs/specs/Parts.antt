-- The text of a run, a part at a time (docs/SPECIFICATIONS.md, "Run text").
use Rattle.std.specs.Prelude.{ℕ, ◌+◌, List, [], ◌∷◌, ◌++◌, Option, Some, None, Ok, Bool, false, nat_lt, ◌==◌, codes}
use Rattle.std.specs.List.{flat_map}
use Rattle.totem_names.specs.Sources.{Parsed, ◌>>=◌}
use Rattle.totem_names.specs.declared.version.Version.{Version}
use Rattle.totem_evs.specs.declared.entry.Entry.{Entry}
use Rattle.totem_evs.specs.declared.log.Log.{Log}
use Rattle.totem_evs.specs.declared.part.Part.{Part}
use Rattle.totem_evs.specs.declared.part.Part.TheVariants as parts
use Rattle.totem_evs.specs.declared.stage.Stage.{Stage}
use Rattle.totem_evs.specs.declared.stage.OpenLog.{OpenLog}
use Rattle.totem_evs.specs.RunText.{line, entry_text, ending_text}
use Rattle.totem_evs.specs.RunGrammar.{is_failure, line_at, by_line, run_words}
use Rattle.totem_evs.specs.Heads.{head_at, by_head}

-- ---- parts

-- the first line of a log, or the last line, which is no part
unfoldable pub begun_at : Version → ℕ → ℕ → List ℕ → Parsed (Option Part)
begun_at version logs last bytes = do
  head ← head_at run_words version (logs == 32) last bytes
  Ok (by_head head.0 None (λ p. Some (parts.Log p)), head.1)

-- the next entry of a log, or its end
unfoldable pub within_at : Version → ℕ → Bool → List ℕ → Parsed (Option Part)
within_at version entries failed bytes = do
  l ← line_at version (entries == 1000000) (nat_lt 0 entries) failed bytes
  Ok (Some (by_line l.0 parts.Close parts.Entry), l.1)

-- the next part, depending on whether a log has not ended
abbrev pub next_at : Version → ℕ → ℕ → Option OpenLog → List ℕ → Parsed (Option Part)
next_at version logs last None bytes = begun_at version logs last bytes
next_at version logs last (Some log) bytes = within_at version log.entries log.failed bytes

-- the next part of a run
abbrev pub part_at : Stage → List ℕ → Parsed (Option Part)
part_at stage bytes = next_at stage.version stage.logs stage.last stage.log bytes

-- ---- how far a run has been read

-- after the first line
abbrev pub first_stage : Version → Stage
first_stage version = record { version = version; logs = 0; last = 0; log = None }

-- after one more entry
abbrev pub with_entry : Option OpenLog → Entry → Option OpenLog
with_entry None e = None
with_entry (Some log) e = Some (record { entries = log.entries + 1; failed = is_failure e })

-- how far the run has been read after this part
abbrev pub next_stage : Stage → Part → Stage
next_stage stage (parts.Log p) = record { version = stage.version; logs = stage.logs + 1; last = p; log = Some (record { entries = 0; failed = false }) }
next_stage stage (parts.Entry e) = record { version = stage.version; logs = stage.logs; last = stage.last; log = with_entry stage.log e }
next_stage stage (parts.Close ending) = record { version = stage.version; logs = stage.logs; last = stage.last; log = None }

-- ---- the parts of a run

-- the line of a part, by the spelling of processes
abbrev pub part_text : (ℕ → List ℕ) → Part → List ℕ
part_text spell (parts.Log p) = line (codes "log " ++ spell p)
part_text spell (parts.Entry e) = line (entry_text spell e)
part_text spell (parts.Close ending) = line (ending_text ending)

-- the entries of a log
abbrev pub entry_parts : List Entry → List Part
entry_parts entries = flat_map (λ e. parts.Entry e ∷ []) entries

-- a log: its beginning, its entries, its end
abbrev pub log_parts : Log → List Part
log_parts log = (parts.Log log.proc ∷ []) ++ entry_parts log.entries ++ (parts.Close log.ending ∷ [])

-- the parts of each log
abbrev pub run_parts : List Log → List Part
run_parts run = flat_map log_parts run
