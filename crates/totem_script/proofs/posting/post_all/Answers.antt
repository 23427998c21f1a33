use Rattle.totem_script.proofs.Sent.{none_posted, one_posted}
use Rattle.totem_script.proofs.posting.post_all.Goals as goal

pub loop-sending-init : goal.loop-sending-init
loop-sending-init c = none_posted c.args.cut.now c.args.actors.now c.args.from c.args.queue.now.items

pub loop-sending-preserved : goal.loop-sending-preserved
loop-sending-preserved c =
    one_posted c.args.cut.now c.args.actors.now c.args.from c.args.queue.now.items c.loop-sending.queue.items c.post.new.queue.items c.loop-sending.yielded c.in-Some.sending c.loop-sending.invariant c.in_ok-post.ensures
