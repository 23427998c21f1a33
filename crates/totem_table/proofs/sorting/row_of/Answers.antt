use Rattle.totem_table.proofs.Common.{refl, arith, slice_get_read, along_more}
use Rattle.totem_table.proofs.NameLists.{lists_at, along_whole}
use Rattle.totem_table.proofs.sorting.row_of.Goals as goal

pub number_of-requires-clause-messages : goal.number_of-requires-clause-messages
number_of-requires-clause-messages c = lists_at _ _ _ _ c.loop-entry.entry-index c.entry-item.result (slice_get_read c.args.entries.now _ c.loop-entry.entry-index c.entry-item.result refl c.loop-entry-test.true c.entry-item.is) c.requires.messages

pub number_of-requires-clause-confs : goal.number_of-requires-clause-confs
number_of-requires-clause-confs c = lists_at _ _ _ _ c.loop-entry.entry-index c.entry-item.result (slice_get_read c.args.entries.now _ c.loop-entry.entry-index c.entry-item.result refl c.loop-entry-test.true c.entry-item.is) c.requires.confs

pub loop-entry-preserved : goal.loop-entry-preserved
loop-entry-preserved c =
    let at = slice_get_read c.args.entries.now _ c.loop-entry.entry-index c.entry-item.result refl c.loop-entry-test.true c.entry-item.is in
    rw c.in_ok-push.ensures.items (along_more _ c.args.entries.now c.loop-entry.numbers.items c.loop-entry.entry-index c.entry-item.result c.number_of.result at c.number_of.ensures c.loop-entry.invariant)

pub returns : goal.returns
returns c =
    let whole = along_whole _ _ _ c.loop-entry.entry-index 0 (let a = c.loop-entry-test.false in let b = c.loop-entry.auto.entry-index-end in omega arith) c.loop-entry.invariant in
    rw c.of.ensures (record { long = whole.0; each = whole.1 })
