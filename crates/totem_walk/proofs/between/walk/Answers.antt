use Rattle.totem_walk.proofs.Joining.{decided, followed_so}
use Rattle.totem_walk.proofs.between.walk.Goals as goal

pub is_causal-requires-clause-follower : goal.is_causal-requires-clause-follower
is_causal-requires-clause-follower c = followed_so c.args.stitch.now c.args.run.now.logs c.args.ring c.args.receiver c.follow-follower.result c.requires.stitch c.follow-follower.ensures

pub returns-clause-exact : goal.returns-clause-exact
returns-clause-exact c = decided c.args.run.now.logs c.args.ring c.args.sender c.args.receiver c.in_ok-kept.kept c.in_ok-kept.ensures.kept c.in_ok-kept.ensures.broken
