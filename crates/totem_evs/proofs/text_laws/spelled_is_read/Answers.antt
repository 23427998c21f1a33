use Rattle.totem_evs.proofs.SpelledRun.{run_again}
use Rattle.totem_evs.proofs.text_laws.spelled_is_read.Goals as goal

pub returns : goal.returns
returns c = run_again
