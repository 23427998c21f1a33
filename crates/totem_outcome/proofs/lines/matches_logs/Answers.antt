use Rattle.totem_outcome.proofs.Common.{refl, arith}
use Rattle.std.proofs.lemmas.Option.{slice_get_read}
use Rattle.totem_outcome.proofs.Matching.{one_more, all_before, all_match, not_of_one}
use Rattle.totem_outcome.proofs.lines.matches_logs.Goals as goal

pub returns-then-not-is_line_of : goal.returns-then-not-is_line_of
returns-then-not-is_line_of c =
    let at_log = slice_get_read c.args.logs.now _ c.loop-at.at c.index-logs-at.result refl c.loop-at-test.true c.index-logs-at.is in
    let at_line = slice_get_read c.args.lines.now _ c.loop-at.at c.index-lines-at.result refl (omega arith) c.index-lines-at.is in
    not_of_one _ _ _ _ _ at_log at_line (λ is. absurd (let h = c.if-not-is_line_of.ensures.1 is in cc))

pub loop-at-preserved : goal.loop-at-preserved
loop-at-preserved c =
    let at_log = slice_get_read c.args.logs.now _ c.loop-at.at c.index-logs-at.result refl c.loop-at-test.true c.index-logs-at.is in
    let at_line = slice_get_read c.args.lines.now _ c.loop-at.at c.index-lines-at.result refl (omega arith) c.index-lines-at.is in
    one_more _ _ _ _ _ at_log at_line (c.if-not-is_line_of.ensures.0 refl) c.loop-at.invariant

pub returns : goal.returns
returns c = all_match _ _ c.if-logs-lines.false (all_before _ _ _ c.loop-at-test.false c.loop-at.invariant)
