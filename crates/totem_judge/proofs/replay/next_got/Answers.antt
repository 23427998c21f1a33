use Rattle.totem_judge.proofs.Common.{refl, slice_get_read}
use Rattle.totem_judge.proofs.Steps.{skipped_more}
use Rattle.totem_judge.proofs.replay.next_got.Goals as goal

pub loop-index-preserved : goal.loop-index-preserved
loop-index-preserved c =
    skipped_more _ c.args.log c.args.from c.loop-index.index _ (slice_get_read c.args.list.now _ c.loop-index.index c.index-list-index.result refl c.loop-index-test.true c.index-list-index.is)
    (λ by. (let told = c.contains.ensures.1 ((c.by.ensures c.args.log).1 by) in let not = c.if-contains.false in absurd cc)) c.loop-index.invariant
