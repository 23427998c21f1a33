use Rattle.std.proofs.Common.{arith}
use Rattle.totem_audit.proofs.Cutting.{one_more}
use Rattle.totem_audit.proofs.spans.spans.Goals as goal

pub loop-from-preserved : goal.loop-from-preserved
loop-from-preserved c = (
  rw (c.in_ok-push.ensures.items) (one_more 0 c.loop-from.spans.items _ c.loop-from.invariant.0 (omega (arith, c.size.ensures.0))),
  omega (arith, c.size.ensures.1, c.loop-from.invariant.1, c.loop-from-test.true),
)
