use Rattle.totem_laws.proofs.OneBreak.{configurations_one}
use Rattle.totem_laws.proofs.one_answer.configuration_faults_are_one.Goals as goal

pub returns : goal.returns
returns c = configurations_one
