-- A line for each log, and a number for each entry (docs/SPECIFICATIONS.md, "Certificates").
use Rattle.std.specs.Prelude.{◌≡◌, length}
use Rattle.totem_evs.specs.declared.log.Log.{Log}
use Rattle.totem_evs.specs.Certificates.{Numbering}

-- a log and a line have the same process and the same length
abbrev pub IsLineOf : Log → Numbering → Type 0
IsLineOf log line = (log.proc ≡ line.proc) × (length log.entries ≡ length line.numbers)
