use Rattle.totem_laws.proofs.OneBreak.{passes_one}
use Rattle.totem_laws.proofs.one_answer.pass_faults_are_one.Goals as goal

pub returns : goal.returns
returns c = passes_one
