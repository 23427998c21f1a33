use Rattle.totem_script.proofs.Happening.{group_more}
use Rattle.totem_script.proofs.scene.cutting_off.all_of.Goals as goal

pub loop-group-preserved : goal.loop-group-preserved
loop-group-preserved c =
    let more = rw c.as_slice.ensures at c.in_ok-extend_from_slice.ensures.items in
    group_more c.args.groups.now c.loop-group.group-index c.group-item.result c.loop-group.procs.items c.extend_from_slice.new.self.items
    c.loop-group-test.true c.group-item.is c.loop-group.invariant more
