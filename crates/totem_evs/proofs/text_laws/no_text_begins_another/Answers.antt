use Rattle.totem_evs.proofs.SpelledRun.{one_run}
use Rattle.totem_evs.proofs.text_laws.no_text_begins_another.Goals as goal

pub returns : goal.returns
returns c = one_run
