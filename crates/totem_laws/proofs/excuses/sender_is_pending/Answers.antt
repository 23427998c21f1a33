use Rattle.totem_laws.proofs.Excused.{sender}
use Rattle.totem_laws.proofs.excuses.sender_is_pending.Goals as goal

pub returns : goal.returns
returns c = sender
