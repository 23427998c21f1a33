-- The one spelling of a run (docs/SPECIFICATIONS.md, "Run text"). The spelling of entries and logs takes the spelling of
-- processes as a parameter.
use Rattle.totem_names.specs.declared.version.Version.{Version}
use Rattle.totem_evs.specs.RunRecord.{RunRecord}
use Rattle.std.specs.Prelude.{ℕ, List, [], ◌∷◌, ◌++◌, codes}
use Rattle.std.specs.List.{flat_map}
use Rattle.totem_names.specs.declared.version.Version.TheVariants.{One, Two, Three}
use Rattle.totem_names.specs.Processes.{process_text, first_version}
use Rattle.totem_names.specs.Texts.{conf_text, message_text, service_text}
use Rattle.totem_evs.specs.declared.entry.Entry.{Entry}
use Rattle.totem_evs.specs.declared.entry.Entry.TheVariants.{Conf, Send, Deliver, Fail}
use Rattle.totem_evs.specs.declared.ending.Ending.{Ending}
use Rattle.totem_evs.specs.declared.ending.Ending.TheVariants.{Standing, Failed, Quiet}
use Rattle.totem_evs.specs.declared.log.Log.{Log}

-- a line, with its end
abbrev pub line : List ℕ → List ℕ
line bytes = bytes ++ 10 ∷ []

-- members, a space before each
abbrev pub members_text : (ℕ → List ℕ) → List ℕ → List ℕ
members_text spell members = flat_map (λ p. codes " " ++ spell p) members

-- an entry, without the end of its line
abbrev pub entry_text : (ℕ → List ℕ) → Entry → List ℕ
entry_text spell (Conf x members) = codes "conf " ++ conf_text x ++ members_text spell members
entry_text spell (Send m x service) = codes "send " ++ conf_text x ++ codes " " ++ service_text service ++ codes " " ++ message_text m
entry_text spell (Deliver m x) = codes "dlv " ++ conf_text x ++ codes " " ++ message_text m
entry_text spell (Fail x) = codes "fail " ++ conf_text x

-- the closing word of a log
abbrev pub ending_text : Ending → List ℕ
ending_text Standing = codes "open"
ending_text Failed = codes "failed"
ending_text Quiet = codes "quiet"

-- a log: its process, its entries, its closing word, a line for each
abbrev pub log_text : (ℕ → List ℕ) → Log → List ℕ
log_text spell log = line (codes "log " ++ spell log.proc) ++ flat_map (λ entry. line (entry_text spell entry)) log.entries ++ line (ending_text log.ending)

-- a process where no version is known: as written by the first version that can write it
abbrev pub known_text : ℕ → List ℕ
known_text p = process_text (first_version p) p

-- the digit of a version
abbrev pub version_digit : Version → ℕ
version_digit One = 49
version_digit Two = 50
version_digit Three = 51

-- the first line of a run
abbrev pub header_text : Version → List ℕ
header_text version = line (codes "totem-run " ++ version_digit version ∷ [])

-- a run: the header, its logs, and the last line
abbrev pub run_text : RunRecord → List ℕ
run_text run = header_text run.version ++ flat_map (log_text (process_text run.version)) run.logs ++ line (codes "end")
