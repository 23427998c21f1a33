use Rattle.totem_cert.proofs.Common.{sym, ◌∙◌, ap, arith, slice_get_within, LogRecord}
use Rattle.totem_cert.proofs.ClassHeads.{given_read, head_entry, next_class}
use Rattle.totem_cert.proofs.Lists.{at_index}
use Rattle.totem_cert.proofs.KindFacts.{table_kinds}
use Rattle.totem_cert.proofs.CountSteps.{table_row}
use Rattle.totem_cert.proofs.heads.head_of.Goals as goal

pub bounds-lines-k : goal.bounds-lines-k
bounds-lines-k c = omega (arith, slice_get_within c.args.run.now.logs c.args.k c.args.log.now c.requires.log, c.requires.fits.count)

pub class_next-requires-clause-long : goal.class_next-requires-clause-long
class_next-requires-clause-long c =
    let entries = c.as_slice-entries.ensures.value ∙ ap (λ (l : LogRecord). l.entries) c.log.view_is in
    (table_row c.args.run.now.logs c.args.table.now c.args.k c.args.log.now c.as_slice-entries.result.now c.as_slice-row.result.now c.index.result.now c.requires.table c.requires.log entries c.index.ensures c.as_slice-row.ensures).1

pub class_next-requires-clause-kinds : goal.class_next-requires-clause-kinds
class_next-requires-clause-kinds c =
    let entries = c.as_slice-entries.ensures.value ∙ ap (λ (l : LogRecord). l.entries) c.log.view_is in
    table_kinds c.args.run.now.logs c.args.table.now c.args.k c.args.log.now c.as_slice-entries.result.now c.as_slice-kinds.result.now c.index-2.result.now c.requires.table c.requires.log entries c.index-2.ensures c.as_slice-kinds.ensures

pub returns-in-None : goal.returns-in-None
returns-in-None c =
    let entries = c.as_slice-entries.ensures.value ∙ ap (λ (l : LogRecord). l.entries) c.log.view_is in
    let row = table_row c.args.run.now.logs c.args.table.now c.args.k c.args.log.now c.as_slice-entries.result.now c.as_slice-row.result.now c.index.result.now c.requires.table c.requires.log entries c.index.ensures c.as_slice-row.ensures in
    let (entry, is) = at_index c.as_slice-entries.result.now _ c.if-entries-head.false in
    let given = given_read _ _ _ _ _ _ c.requires.fits c.requires.log c.index-lines-k.is c.numbers-head.ensures in
    let class = next_class _ _ _ _ _ _ _ entry _ c.class_next.ensures is (c.len.ensures ∙ c.args.table.now.messages.ok.0) row.0 given in
    (entry, head_entry _ _ _ c.args.log.now c.as_slice-entries.result.now _ entry c.requires.log given entries is, sym class ∙ c.in-None.is)

pub returns-in-Some : goal.returns-in-Some
returns-in-Some c =
    let entries = c.as_slice-entries.ensures.value ∙ ap (λ (l : LogRecord). l.entries) c.log.view_is in
    let row = table_row c.args.run.now.logs c.args.table.now c.args.k c.args.log.now c.as_slice-entries.result.now c.as_slice-row.result.now c.index.result.now c.requires.table c.requires.log entries c.index.ensures c.as_slice-row.ensures in
    let (entry, is) = at_index c.as_slice-entries.result.now _ c.if-entries-head.false in
    let given = given_read _ _ _ _ _ _ c.requires.fits c.requires.log c.index-lines-k.is c.numbers-head.ensures in
    let class = next_class _ _ _ _ _ _ _ entry _ c.class_next.ensures is (c.len.ensures ∙ c.args.table.now.messages.ok.0) row.0 given in
    (entry, head_entry _ _ _ c.args.log.now c.as_slice-entries.result.now _ entry c.requires.log given entries is, sym class ∙ c.in-Some.is)
