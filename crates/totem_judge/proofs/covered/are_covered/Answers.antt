use Rattle.totem_judge.proofs.Common.{◌∙◌, ap, length, arith, LogRecord, read_at}
use Rattle.totem_judge.proofs.Steps.{log_covered}
use Rattle.totem_judge.proofs.covered.are_covered.Goals as goal

pub loop-index-preserved : goal.loop-index-preserved
loop-index-preserved c =
    let at = read_at c.args.logs.now c.loop-index.index c.index-logs-index.result c.loop-index-test.true c.index-logs-index.is in
    let entries = c.as_slice.ensures.value ∙ ap (λ (l : LogRecord). l.entries) c.log.view_is in
    log_covered c.args.logs.now c.args.list.now c.in-Some.ends c.loop-index.index c.index-logs-index.result at (omega (arith, c.loop-index-test.true, c.requires)) (omega (arith, c.if-ends-index.false, ap length entries)) c.in-Some.ensures c.loop-index.invariant
