use Rattle.totem_weave.proofs.Calls.{told_some}
use Rattle.totem_weave.proofs.recorded.tell_none.Goals as goal

pub returns-then-count_in-gt0 : goal.returns-then-count_in-gt0
returns-then-count_in-gt0 c =
    told_some c.args.ring c.args.calls.now c.loop-call.call-index c.call-item.result c.loop-call-test.true c.call-item.is c.loop-call.invariant
    (rw (← c.count_in.ensures) c.if-count_in-gt0.true)
