use Rattle.totem_judge.proofs.Common.{arith, read_at}
use Rattle.totem_judge.proofs.Steps.{all_covered_more, covered_none}
use Rattle.totem_judge.proofs.covered.covered_to.Goals as goal

pub loop-gathered-init : goal.loop-gathered-init
loop-gathered-init c = covered_none c.args.list.now

pub loop-stay-preserved : goal.loop-stay-preserved
loop-stay-preserved c =
    let at = read_at c.args.list.now c.loop-gathered.gathered-index c.gathered-item.result c.loop-gathered-test.true c.gathered-item.is in
    let stands = rw c.deref-stay-items.ensures.value at (read_at c.deref-stay-items.result.now c.loop-stay.stay-index c.stay-item.result c.loop-stay-test.true c.stay-item.is) in
    all_covered_more c.args.list.now c.loop-stay.ends c.loop-gathered.gathered-index c.loop-stay.stay-index c.gathered-item.result c.stay-item.result at stands (omega (arith, c.if-stay-ends.false)) c.loop-stay.invariant
