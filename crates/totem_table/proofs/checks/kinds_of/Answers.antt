use Rattle.totem_table.proofs.Common.{refl, arith, ap, ◌∙◌, slice_get_read, slice_get_within, LogRecord}
use Rattle.totem_table.proofs.Checking.{holds_more, kinds_more, row_named}
use Rattle.totem_table.proofs.checks.kinds_of.Goals as goal

pub loop-k-preserved : goal.loop-k-preserved
loop-k-preserved c =
    let at = slice_get_read c.args.logs.now _ c.loop-k.k c.index-logs-k.result refl c.loop-k-test.true c.index-logs-k.is in
    let entries = c.as_slice-entries.ensures.value ∙ ap (λ (l : LogRecord). l.entries) c.log.view_is in
    record {
      named = holds_more _ _ _ _ at (row_named _ _ c.args.rows.now c.loop-k.k c.index-logs-k.result _ _ _ (let rows = c.if-logs-rows.false in let lt = c.loop-k-test.true in omega arith) entries c.index-rows-k.is c.as_slice.ensures (rw c.in-Some.is at c.in_ok-one.ensures.named)) c.loop-k.invariant.named;
      kinds = kinds_more _ _ _ _ _ _ _ at entries (rw c.in-Some.is at c.in_ok-one.ensures.kinds) c.in_ok-push.ensures.items c.loop-k.invariant.kinds;
    }

pub returns-clause-named : goal.returns-clause-named
returns-clause-named c = record {
  long = c.if-logs-rows.false;
  each = λ k log at. c.loop-k.invariant.named.each k log (let within = slice_get_within c.args.logs.now k log at in let end = c.loop-k-test.false in omega arith) at;
}
