use Rattle.totem_plain.proofs.Common.{sym, ◌∙◌, ap, LogRecord}
use Rattle.totem_plain.proofs.Logs.{no_ending, quiet_told}
use Rattle.totem_plain.proofs.all_logs.is_quiet.Goals as goal

pub returns-in-Some : goal.returns-in-Some
returns-in-Some c = quiet_told _ _ _ (c.in-Some.ensures.some.ending ∙ sym (ap (λ (l : LogRecord). l.ending) c.log.view_is)) c.is_quiet_ending.ensures

pub returns-in-None : goal.returns-in-None
returns-in-None c = no_ending _ _ c.in-None.ensures.none
