use Rattle.totem_judge.specs.Turns.{HasFollowings}
use Rattle.totem_judge.proofs.Steps.{HasFollowingsOf}
use Rattle.totem_judge.proofs.following.following_in.Given as goal

abbrev pub invariant-loop-stay : goal.invariant-loop-stay
invariant-loop-stay l = HasFollowings l.logs l.stays l.stay-index l.list.items × HasFollowingsOf l.logs l.stays l.list.items l.seen
