use Rattle.std.proofs.Common.{◌≡◌, length, slice_get, Some, arith}
use Rattle.totem_judge_traffic.proofs.Rowing.{read_at, lacks_more}
use Rattle.totem_judge_traffic.proofs.causality_5.add_to.Goals as goal

pub loop-index-preserved : goal.loop-index-preserved
loop-index-preserved c =
    let at : slice_get c.args.got.now c.loop-index.index ≡ Some c.index-got-index.result = read_at c.args.got.now c.loop-index.index c.index-got-index.result c.loop-index-test.true c.index-got-index.is in
    lacks_more c.args.logs c.args.got.now c.loop-index.index c.index-got-index.result at c.by-by.result c.by-by.ensures c.minus.result c.minus.ensures
    c.loop-index.rows c.add.new.self c.add.ensures.kept c.add.ensures.added c.loop-index.invariant

pub returns-clause-lacking : goal.returns-clause-lacking
returns-clause-lacking c =
    let end : c.loop-index.index ≡ length c.args.got.now = omega arith in
    rw end at c.loop-index.invariant
