use Rattle.totem_plain.proofs.Follows.{last_change_before}
use Rattle.totem_plain.proofs.one_log.is_last_change_before.Goals as goal

pub returns : goal.returns
returns c = last_change_before _ _ _ _ c.next_change-next.result c.is_before.result c.requires (c.changes_to_at.ensures.0 c.if-not-changes_to_at.false) c.next_change-next.ensures.some c.next_change-next.ensures.none c.is_before.ensures
