use Rattle.totem_laws.proofs.Excused.{member}
use Rattle.totem_laws.proofs.excuses.member_is_pending.Goals as goal

pub returns : goal.returns
returns c = member
