use Rattle.totem_judge.specs.Turns.{IsFollowing}
use Rattle.totem_judge.proofs.following.following_as.Given as goal

abbrev pub invariant-loop-stay : goal.invariant-loop-stay
invariant-loop-stay l = IsFollowing l.logs l.stays l.stay-index l.turn.conf.now l.turn.members.now l.following
