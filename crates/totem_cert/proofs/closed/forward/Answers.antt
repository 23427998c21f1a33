use Rattle.std.proofs.Common.{◌<◌, ◌-◌, length, refl, arith}
use Rattle.totem_cert.proofs.Written.{forward_more}
use Rattle.totem_cert.proofs.closed.forward.Goals as goal

pub loop-i-preserved : goal.loop-i-preserved
loop-i-preserved c =
    let within : c.loop-i.i - 1 < length c.args.steps.now = (let a = c.loop-i.invariant.within in let t = c.loop-i-test.true in omega arith) in
    record {
      from = omega arith;
      within = omega arith;
      written = forward_more _ _ _ _ _ _ _ c.index-steps-i.result c.loop-i.invariant.written refl c.loop-i-test.true within c.before-before.ensures c.index-steps-i.is c.in_ok-write_step.ensures;
    }
