use Rattle.totem_laws.proofs.OneAnswer.{answers_one}
use Rattle.totem_laws.proofs.one_answer.answers_are_one.Goals as goal

pub returns : goal.returns
returns c = answers_one
