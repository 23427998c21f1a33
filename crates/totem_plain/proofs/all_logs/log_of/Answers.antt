use Rattle.totem_plain.proofs.Common.{sym, ◌∙◌, ap, LogRecord}
use Rattle.totem_plain.proofs.Logs.{no_entries}
use Rattle.totem_plain.proofs.all_logs.log_of.Goals as goal

pub returns-in-Some : goal.returns-in-Some
returns-in-Some c = c.as_slice.ensures.value ∙ ap (λ (l : LogRecord). l.entries) c.log.view_is ∙ sym c.in-Some.ensures.some.entries

pub returns-in-None : goal.returns-in-None
returns-in-None c = sym (no_entries _ _ c.in-None.ensures.none)
