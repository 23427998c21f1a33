use Rattle.totem_plain.proofs.Follows.{one_change}
use Rattle.totem_plain.proofs.one_log.never_changes_to.Goals as goal

pub returns-in-Some : goal.returns-in-Some
returns-in-Some c = one_change _ _ _ c.in-Some.ensures.some
