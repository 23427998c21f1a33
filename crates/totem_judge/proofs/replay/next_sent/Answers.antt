use Rattle.totem_judge.proofs.Common.{refl, ap, arith, slice_get_read, Sent}
use Rattle.totem_judge.proofs.Steps.{unsent_more}
use Rattle.totem_judge.proofs.replay.next_sent.Goals as goal

pub loop-index-preserved : goal.loop-index-preserved
loop-index-preserved c =
    unsent_more _ c.args.log c.args.from c.loop-index.index _ (slice_get_read c.args.list.now _ c.loop-index.index c.index-list-index.result refl c.loop-index-test.true c.index-list-index.is)
    (λ by. (let other = c.if-list-index.false in let same = ap (λ (s : Sent). s.sender) c.index-list-index.is in absurd (omega (arith, other, same, by)))) c.loop-index.invariant
