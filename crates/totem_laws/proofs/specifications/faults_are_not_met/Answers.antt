use Rattle.totem_laws.proofs.Broken.{faults_not_met}
use Rattle.totem_laws.proofs.specifications.faults_are_not_met.Goals as goal

pub returns : goal.returns
returns c = faults_not_met
