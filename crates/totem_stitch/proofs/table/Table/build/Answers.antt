use Rattle.totem_stitch.proofs.Entering.{knows_yet, knows_all}
use Rattle.totem_stitch.proofs.table.Table.build.Goals as goal

pub loop-at-init : goal.loop-at-init
loop-at-init c = knows_yet _ c.args.log.now c.new.ensures.empty c.new-2.ensures.empty

pub returns : goal.returns
returns c = knows_all c.loop-at.table c.args.log.now c.loop-at.at c.loop-at-test.false c.loop-at.invariant
