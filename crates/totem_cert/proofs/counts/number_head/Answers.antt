use Rattle.totem_cert.proofs.Common.{◌≡◌, length, refl, sym, ap, ◌∙◌, slice_get_within, LogRecord, Numbering, count_of}
use Rattle.totem_cert.proofs.ClassHeads.{head_feeds}
use Rattle.totem_cert.proofs.Lists.{read_is}
use Rattle.totem_cert.proofs.KindFacts.{table_kinds}
use Rattle.totem_cert.proofs.CountSteps.{counts_step, pushes_of, table_row}
use Rattle.totem_cert.proofs.counts.number_head.Goals as goal

pub advance-requires-clause-long : goal.advance-requires-clause-long
advance-requires-clause-long c =
    (table_row c.args.run.now.logs c.args.table.now c.args.k c.args.log.now c.as_slice-entries.result.now c.as_slice-row.result.now c.index.result.now c.requires.table c.requires.log
    (c.as_slice-entries.ensures.value ∙ ap (λ (l : LogRecord). l.entries) c.log.view_is) c.index.ensures c.as_slice-row.ensures).1

pub advance-requires-clause-kinds : goal.advance-requires-clause-kinds
advance-requires-clause-kinds c =
    table_kinds c.args.run.now.logs c.args.table.now c.args.k c.args.log.now c.as_slice-entries.result.now c.as_slice-kinds.result.now c.index-2.result.now c.requires.table c.requires.log
    (c.as_slice-entries.ensures.value ∙ ap (λ (l : LogRecord). l.entries) c.log.view_is) c.index-2.ensures c.as_slice-kinds.ensures

pub returns-clause-pushes : goal.returns-clause-pushes
returns-clause-pushes c =
    pushes_of _ _ c.args.k c.args.number c.index_mut.result.now c.push.new.self (slice_get_within c.args.lines.now.items c.args.k c.requires.more.line c.requires.more.line_at)
    c.index_mut.ensures.value refl c.in_ok-push.ensures.ok

pub returns-clause-counts : goal.returns-clause-counts
returns-clause-counts c =
    let entries = c.as_slice-entries.ensures.value ∙ ap (λ (l : LogRecord). l.entries) c.log.view_is in
    let row = table_row c.args.run.now.logs c.args.table.now c.args.k c.args.log.now c.as_slice-entries.result.now c.as_slice-row.result.now c.index.result.now c.requires.table c.requires.log entries c.index.ensures c.as_slice-row.ensures in
    let line = read_is c.args.lines.now.items c.args.k c.index-3.result.now c.requires.more.line c.requires.more.line_at c.index-3.ensures in
    let at : length c.numbers-at.result.now ≡ length c.requires.more.line.numbers = ap length (c.numbers-at.ensures ∙ ap (λ (l : Numbering). l.numbers) line) in
    let pushes = pushes_of _ _ c.args.k c.args.number c.index_mut.result.now c.push.new.self (slice_get_within c.args.lines.now.items c.args.k c.requires.more.line c.requires.more.line_at)
    c.index_mut.ensures.value refl c.in_ok-push.ensures.ok in
    counts_step c.args.run.now.logs c.args.table.now _ _ c.args.k c.args.number c.args.log.now c.requires.more.line _ _ c.requires.table c.requires.counts pushes c.requires.log c.requires.more.line_at c.requires.more.more
    (rw (c.len.ensures ∙ c.args.table.now.messages.ok.0, entries, row.0, at) at c.advance.ensures)

pub advance-requires-clause-feeds : goal.advance-requires-clause-feeds
advance-requires-clause-feeds c =
    let entries = c.as_slice-entries.ensures.value ∙ ap (λ (l : LogRecord). l.entries) c.log.view_is in
    let row = table_row c.args.run.now.logs c.args.table.now c.args.k c.args.log.now c.as_slice-entries.result.now c.as_slice-row.result.now c.index.result.now c.requires.table c.requires.log entries c.index.ensures c.as_slice-row.ensures in
    let line = read_is c.args.lines.now.items c.args.k c.index-3.result.now c.requires.more.line c.requires.more.line_at c.index-3.ensures in
    let at : length c.numbers-at.result.now ≡ length c.requires.more.line.numbers = ap length (c.numbers-at.ensures ∙ ap (λ (l : Numbering). l.numbers) line) in
    head_feeds c.args.run.now.logs c.args.table.now c.args.lines.now.items c.args.k c.args.head c.args.log.now _ _ _ c.requires.head c.requires.log entries row.0 (at ∙ sym (ap count_of c.requires.more.line_at))
