use Rattle.totem_script.proofs.FirstLives.{run_fits}
use Rattle.totem_script.proofs.laws.a_run_has_its_scripts_version.Goals as goal

pub returns : goal.returns
returns c = run_fits
