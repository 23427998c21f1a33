use Rattle.totem_laws.proofs.OneBreak.{least_one}
use Rattle.totem_laws.proofs.one_answer.least_breaks_are_one.Goals as goal

pub returns : goal.returns
returns c = least_one
