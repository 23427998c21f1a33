use Rattle.totem_cert.proofs.Common.{List, slice_get, sym, ◌∙◌, ap, arith, Entry, LogRecord, IsEntryAt}
use Rattle.totem_cert.proofs.CountSteps.{table_row}
use Rattle.totem_cert.proofs.KindFacts.{kind_read, table_kinds}
use Rattle.totem_cert.proofs.Lists.{at_index}
use Rattle.totem_cert.proofs.FirstPlaces.{first_more, firsts_log}
use Rattle.totem_cert.proofs.LineFacts.{same_parts}
use Rattle.totem_cert.proofs.firsts.note_log.Goals as goal

pub bounds-row-at : goal.bounds-row-at
bounds-row-at c =
    let entries = c.as_slice-entries.ensures.value ∙ ap (λ (l : LogRecord). l.entries) c.log.view_is in
    let row = table_row c.args.run.now.logs c.args.table.now c.args.k c.args.log.now c.as_slice-entries.result.now c.as_slice-row.result.now c.index.result.now c.requires.table c.requires.log entries c.index.ensures c.as_slice-row.ensures in
    omega (arith, row.1, c.loop-at-test.true)

pub loop-at-preserved : goal.loop-at-preserved
loop-at-preserved c =
    let entries = c.as_slice-entries.ensures.value ∙ ap (λ (l : LogRecord). l.entries) c.log.view_is in
    let row = table_row c.args.run.now.logs c.args.table.now c.args.k c.args.log.now c.as_slice-entries.result.now c.as_slice-row.result.now c.index.result.now c.requires.table c.requires.log entries c.index.ensures c.as_slice-row.ensures in
    let kinds = table_kinds c.args.run.now.logs c.args.table.now c.args.k c.args.log.now c.as_slice-entries.result.now c.as_slice-kinds.result.now c.index-2.result.now c.requires.table c.requires.log entries c.index-2.ensures c.as_slice-kinds.ensures in
    let (entry, is) = at_index c.as_slice-entries.result.now c.loop-at.at c.loop-at-test.true in
    let here : IsEntryAt c.args.run.now.logs c.args.k c.loop-at.at entry = record { log = c.args.log.now; is_log = c.requires.log; is_entry = ap (λ (es : List Entry). slice_get es c.loop-at.at) (sym entries) ∙ is } in
    first_more _ _ _ _ _ _ _ _ _ _ _ here
    (rw (c.len-messages.ensures ∙ c.args.table.now.messages.ok.0, c.given_at-given.ensures, row.0) at (c.class_wanted-class.ensures entry (kind_read c.as_slice-entries.result.now c.as_slice-kinds.result.now c.loop-at.at entry _ kinds is)))
    c.note.ensures (same_parts _ _ _ (ap (λ (l : LogRecord). l.proc) c.log.view_is) (omega arith)) c.loop-at.invariant

pub returns : goal.returns
returns c =
    let entries = c.as_slice-entries.ensures.value ∙ ap (λ (l : LogRecord). l.entries) c.log.view_is in
    firsts_log _ _ _ _ _ _ _ _ c.requires.log (rw entries at c.loop-at-test.false) c.loop-at.invariant
