use Rattle.totem_search.proofs.Loops.{denied}
use Rattle.totem_search.proofs.Follows.{never_follows, nothing_follows, other_follows}
use Rattle.totem_search.proofs.following.follows.Goals as goal

pub returns-in_default : goal.returns-in_default
returns-in_default c = never_follows _ _ _ c.in_default.ensures.none

pub returns-in_default-next_change : goal.returns-in_default-next_change
returns-in_default-next_change c = nothing_follows _ _ _ _ c.in-Some.ensures.some c.in_default-next_change.ensures.none

pub returns-else-changes_to_at : goal.returns-else-changes_to_at
returns-else-changes_to_at c = rw c.if-changes_to_at.false (other_follows _ _ _ _ _ c.in-Some.ensures.some c.in-Some-next_change.ensures.some (denied _ c.if-changes_to_at.false c.changes_to_at.ensures))
