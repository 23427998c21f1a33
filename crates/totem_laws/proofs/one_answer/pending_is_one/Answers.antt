use Rattle.totem_laws.proofs.OneList.{pending_one}
use Rattle.totem_laws.proofs.one_answer.pending_is_one.Goals as goal

pub returns : goal.returns
returns c = pending_one
