use Rattle.totem_laws.proofs.OneList.{rings_one}
use Rattle.totem_laws.proofs.one_answer.rings_are_one.Goals as goal

pub returns : goal.returns
returns c = rings_one
