use Rattle.totem_evs.proofs.SpelledRun.{no_run}
use Rattle.totem_evs.proofs.text_laws.a_fault_is_no_text.Goals as goal

pub returns : goal.returns
returns c = no_run
