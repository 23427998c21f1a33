use Rattle.totem_plain.proofs.Follows.{last_or_next}
use Rattle.totem_plain.proofs.one_log.is_last.Goals as goal

pub returns-in-Some : goal.returns-in-Some
returns-in-Some c = last_or_next _ _ _ c.in-Some.ensures.some
