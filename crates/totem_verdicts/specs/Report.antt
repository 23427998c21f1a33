-- The text of a report on a run of a version (docs/SPECIFICATIONS.md, "Report text").
use Rattle.std.specs.Prelude.{ℕ, List, ◌++◌, codes}
use Rattle.std.specs.List.{flat_map}
use Rattle.totem_names.specs.declared.version.Version.{Version}
use Rattle.totem_names.specs.Processes.{process_text}
use Rattle.totem_evs.specs.declared.fault.Fault.{Fault}
use Rattle.totem_evs.specs.declared.pending.Pending.{Pending}
use Rattle.totem_evs.specs.declared.pending.Waiting.{Waiting}
use Rattle.totem_evs.specs.ReportText.{fault_text, pending_text, waiting_text}
use Rattle.totem_evs.specs.RunText.{line}
use Rattle.totem_evs.specs.Answers.{Answer, Yes, No}
use Rattle.totem_certificate.specs.Keeping.{certificate_version}
use Rattle.totem_certificate.specs.CertText.{cert_text}
use Rattle.totem_verdicts.specs.declared.report.Form.{Form}
use Rattle.totem_verdicts.specs.declared.report.Form.TheVariants as forms

-- a no: a line for each fault
abbrev pub no_text : Version → List Fault → List ℕ
no_text version faults = line (codes "verdict no") ++ flat_map (λ fault. line (fault_text (process_text version) fault)) faults ++ line (codes "end")

-- the line of a process that may still deliver a message
unfoldable pub pending_line : Version → Pending → List ℕ
pending_line version p = line (pending_text (process_text version) p)

-- the line of a process that waits for another
unfoldable pub waiting_line : Version → Waiting → List ℕ
waiting_line version w = line (waiting_text (process_text version) w)

-- a yes: a line for each pending message, and for each process that waits for another
abbrev pub yes_text : Version → List Pending → List Waiting → List ℕ
yes_text version pending waiting = line (codes "verdict yes") ++ flat_map (pending_line version) pending ++ flat_map (waiting_line version) waiting

-- the checker's yes
abbrev pub accepted_text : Version → List Pending → List Waiting → List ℕ
accepted_text version pending waiting = yes_text version pending waiting ++ line (codes "end")

-- the report of an audit: a yes is followed by the certificate, or in brief by the line `end`, as the checker's
abbrev pub report_text : Form → Version → Answer → List ℕ
report_text forms.Whole version (Yes lines pending waiting) = yes_text version pending waiting ++ cert_text (record { version = certificate_version version; lines = lines })
report_text forms.Brief version (Yes lines pending waiting) = accepted_text version pending waiting
report_text form version (No faults) = no_text version faults
