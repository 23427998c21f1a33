use Rattle.std.proofs.Common.{arith, ap, ◌∙◌}
use Rattle.totem_core.proofs.Telling.{some_sent, none_sent}
use Rattle.totem_core.proofs.told.write_sends.Goals as goal
use Rattle.totem_core.proofs.told.write_sends.Goals.{in-Some+in_ok-push, in_default}

pub loop-body-preserved : goal.loop-body-preserved
loop-body-preserved c = record {
  number = omega (arith, c.loop-body.invariant.number);
  so_far = elim c.match-send.branch [
    | in-Some+in_ok-push w ↦
        some_sent c.args.ring.now c.args.seq c.loop-body.body-index c.loop-body.number c.args.bodies.now c.body-item.result _ _ _ _ _ _
        c.loop-body.invariant.so_far c.loop-body.invariant.number c.loop-body-test.true c.body-item.is
        c.ring.ensures c.send.ensures w.in-Some.is (ap (λ v. v.items) w.entries-is ∙ (w.in_ok-push.ensures {u = tt}).items)
    | in_default w ↦
        rw (ap (λ v. v.items) w.entries-is)
        (none_sent c.args.ring.now c.args.seq c.loop-body.body-index c.loop-body.number c.args.bodies.now c.body-item.result _ _ _ _
        c.loop-body.invariant.so_far c.loop-body.invariant.number c.loop-body-test.true c.body-item.is
        c.ring.ensures c.send.ensures w.in_default.is)
  ];
}
