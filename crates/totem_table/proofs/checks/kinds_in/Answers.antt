use Rattle.totem_table.proofs.Common.{refl, arith, slice_get_read, slice_get_within, kind_of}
use Rattle.std.proofs.lemmas.List.{map_more}
use Rattle.totem_table.proofs.Checking.{holds_more}
use Rattle.totem_table.proofs.checks.kinds_in.Goals as goal

pub loop-at-preserved : goal.loop-at-preserved
loop-at-preserved c =
    let at = slice_get_read c.args.entries.now _ c.loop-at.at c.index-entries-at.result refl c.loop-at-test.true c.index-entries-at.is in
    record {
      named = holds_more _ _ _ _ at c.if-not-is_named.ensures c.loop-at.invariant.named;
      kinds =
          let more = map_more kind_of c.args.entries.now c.loop-at.at c.index-entries-at.result c.loop-at-test.true in
          let pushed = c.in_ok-push.ensures.items in
          let kind = c.of.ensures in
          let before = c.loop-at.invariant.kinds in
          let entry = c.index-entries-at.is in cc;
    }

pub returns-clause-named : goal.returns-clause-named
returns-clause-named c = record {
  long = c.if-entries-row.false;
  each = λ i entry at. c.loop-at.invariant.named.each i entry (let within = slice_get_within c.args.entries.now i entry at in let end = c.loop-at-test.false in omega arith) at;
}
