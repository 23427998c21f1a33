use Rattle.totem_walk.proofs.Noting.{enters_nothing, enters_one}
use Rattle.totem_walk.proofs.deliveries.Deliveries.enter.Goals as goal

pub returns-in_default-clause-entered : goal.returns-in_default-clause-entered
returns-in_default-clause-entered c =
    enters_nothing c.args.log.now c.args.ring c.args.at c.args.self.now _ c.args.follower.now c.requires.follower c.read-entry.ensures.entry c.in_default.ensures.none c.requires.before

pub returns-clause-entered : goal.returns-clause-entered
returns-clause-entered c =
    enters_one c.args.log.now c.args.ring c.args.at c.args.self.now c.insert.new.self _ c.args.follower.now c.in-Some.message c.requires.follower c.read-entry.ensures.entry c.in-Some.ensures.found c.in_ok-insert.ensures.updates
    c.requires.before
