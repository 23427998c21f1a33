use Rattle.totem_evs.proofs.Common.{OnTrue_from, AreNoted}
use Rattle.totem_evs.proofs.roster.Roster.are_noted.Goals as goal

pub returns-in-Some : goal.returns-in-Some
returns-in-Some c = OnTrue_from _ (AreNoted c.args.self.now.begun c.args.self.now.waiting c.args.members.now) (λ same. rw (← c.self.view_is) (rw (c.is.ensures.0 same) at (rw c.in-Some.is at c.self.invariant)))
