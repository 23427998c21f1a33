use Rattle.totem_laws.proofs.OneList.{waiting_one}
use Rattle.totem_laws.proofs.one_answer.waiting_is_one.Goals as goal

pub returns : goal.returns
returns c = waiting_one
