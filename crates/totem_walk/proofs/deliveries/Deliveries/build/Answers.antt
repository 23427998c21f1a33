use Rattle.totem_walk.proofs.Noting.{entered_all}
use Rattle.totem_walk.proofs.deliveries.Deliveries.build.Goals as goal

pub returns-clause-are : goal.returns-clause-are
returns-clause-are c = entered_all c.loop-at.deliveries c.args.log.now c.args.ring c.loop-at.at c.loop-at-test.false c.loop-at.invariant.known
