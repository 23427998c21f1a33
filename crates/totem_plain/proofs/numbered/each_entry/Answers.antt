use Rattle.totem_plain.proofs.Common.{refl, arith, slice_get_read, as_many, matches_at}
use Rattle.totem_plain.proofs.Numbering.{log_more, each_event, some_event}
use Rattle.totem_plain.proofs.numbered.each_entry.Goals as goal

pub each_in-requires-clause-line : goal.each_in-requires-clause-line
each_in-requires-clause-line g c =
    let log = slice_get_read c.args.logs.now _ c.loop-index.index c.index-logs-index.result refl c.loop-index-test.true c.index-logs-index.is in
    let line = slice_get_read c.args.lines.now _ c.loop-index.index c.index-lines-index.result refl (omega (arith, as_many _ _ c.requires.matches)) c.index-lines-index.is in
    matches_at _ _ _ _ _ c.requires.matches log line

pub returns-then-not-each_in : goal.returns-then-not-each_in
returns-then-not-each_in g c =
    let log = slice_get_read c.args.logs.now _ c.loop-index.index c.index-logs-index.result refl c.loop-index-test.true c.index-logs-index.is in
    let line = slice_get_read c.args.lines.now _ c.loop-index.index c.index-lines-index.result refl (omega (arith, as_many _ _ c.requires.matches)) c.index-lines-index.is in
    some_event _ _ _ _ _ _ c.requires.run.rising c.requires.matches log line c.if-not-each_in.ensures

pub loop-index-preserved : goal.loop-index-preserved
loop-index-preserved g c =
    let log = slice_get_read c.args.logs.now _ c.loop-index.index c.index-logs-index.result refl c.loop-index-test.true c.index-logs-index.is in
    let line = slice_get_read c.args.lines.now _ c.loop-index.index c.index-lines-index.result refl (omega (arith, as_many _ _ c.requires.matches)) c.index-lines-index.is in
    log_more _ _ _ _ _ _ log line c.if-not-each_in.ensures c.loop-index.invariant

pub returns : goal.returns
returns g c = each_event _ _ _ _ c.requires.run.rising c.requires.matches c.loop-index-test.false c.loop-index.invariant
