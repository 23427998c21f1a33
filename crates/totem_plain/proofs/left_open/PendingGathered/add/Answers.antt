use Rattle.totem_plain.proofs.Unsettling.{one_pending}
use Rattle.totem_plain.proofs.left_open.PendingGathered.add.Goals as goal

pub returns : goal.returns
returns c = rw c.in_ok-push.ensures.items (one_pending _ _ _ _ _ _ c.in-Some.ensures (c.misses.ensures.0 c.if-not-misses.false))
