use Rattle.std.proofs.Common.{◌≡◌, sym, rules, arith, true, false}
use Rattle.totem_script.proofs.Sent.{passed_by, reached, all_reached}
use Rattle.totem_script.proofs.posting.broadcast.Goals as goal

pub loop-actor-preserved-then-not-is_reached : goal.loop-actor-preserved-then-not-is_reached
loop-actor-preserved-then-not-is_reached c =
    let out : c.is_reached.result ≡ false = search rules in
    passed_by c.args.cut.now c.args.from c.args.packet.now c.args.actors.now c.args.queue.now.items c.loop-actor.queue.items c.loop-actor.actor-index c.actor-item.result
    c.loop-actor-test.true c.actor-item.is c.loop-actor.invariant c.is_reached.result c.id-to.result c.id-to.ensures c.is_reached.ensures out

pub loop-actor-preserved : goal.loop-actor-preserved
loop-actor-preserved c =
    let on : c.is_reached.result ≡ true = search rules in
    reached c.args.cut.now c.args.from c.args.packet.now c.args.actors.now c.args.queue.now.items c.loop-actor.queue.items c.loop-actor.actor-index c.actor-item.result
    c.loop-actor-test.true c.actor-item.is c.loop-actor.invariant c.is_reached.result c.id-to.result c.id-to.ensures c.is_reached.ensures on
    c.in_ok-try_clone.field-0 c.in_ok-try_clone.ensures c.push_back.new.self.items c.in_ok-push_back.ensures.items

pub returns : goal.returns
returns c =
    sym (all_reached c.args.cut.now c.args.from c.args.packet.now c.args.actors.now c.args.queue.now.items c.loop-actor.queue.items c.loop-actor.actor-index (omega arith) c.loop-actor.invariant)
