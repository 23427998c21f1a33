-- The lines of a report, without their ends (docs/SPECIFICATIONS.md, "Report text"). How processes are named in it is a parameter.
use Rattle.std.specs.Prelude.{ℕ, List, ◌++◌, codes, decimal}
use Rattle.std.specs.List.{flat_map}
use Rattle.totem_names.specs.declared.place.Place.{Place}
use Rattle.totem_names.specs.Texts.{conf_text, message_text}
use Rattle.totem_evs.specs.declared.fault.Fault.{Fault}
use Rattle.totem_evs.specs.declared.pending.Pending.{Pending}
use Rattle.totem_evs.specs.declared.pending.Waiting.{Waiting}
use Rattle.totem_evs.specs.SpecNo.{spec_text}

-- a place: its process as it is named in the report, an at sign, its entry
abbrev pub placed_text : (ℕ → List ℕ) → Place → List ℕ
placed_text named e = named e.proc ++ codes "@" ++ decimal e.at

-- places, a space before each
abbrev pub places_text : (ℕ → List ℕ) → List Place → List ℕ
places_text named places = flat_map (λ e. codes " " ++ placed_text named e) places

-- a fault: the specification, and the places that break it
abbrev pub fault_text : (ℕ → List ℕ) → Fault → List ℕ
fault_text named fault = codes "fault " ++ spec_text fault.spec ++ places_text named fault.places

-- who may still deliver a message, and the message
abbrev pub pending_text : (ℕ → List ℕ) → Pending → List ℕ
pending_text named pending = codes "pending " ++ named pending.proc ++ codes " " ++ message_text pending.msg

-- who waits, in which configuration, and for whom
abbrev pub waiting_text : (ℕ → List ℕ) → Waiting → List ℕ
waiting_text named waiting = codes "waiting " ++ named waiting.proc ++ codes " " ++ conf_text waiting.conf ++ codes " " ++ named waiting.other
