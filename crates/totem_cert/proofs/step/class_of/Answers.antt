use Rattle.totem_cert.proofs.Common.{◌≡◌, suc, ◌-◌, ◌∙◌, ap, arith, Place, LogRecord, RunRecord}
use Rattle.totem_cert.proofs.LineFacts.{read_log, class_read}
use Rattle.totem_cert.proofs.KindFacts.{table_kinds}
use Rattle.totem_cert.proofs.CountSteps.{table_row}
use Rattle.totem_cert.proofs.step.class_of.Goals as goal

pub class_next-requires-clause-long : goal.class_next-requires-clause-long
class_next-requires-clause-long c =
    let runs = ap (λ (r : RunRecord). r.logs) c.run.view_is in
    let log = read_log _ _ _ _ c.index-as_slice-k.result c.in-Some.ensures.log (c.as_slice.ensures.value ∙ runs) c.index-as_slice-k.is in
    let entries = c.as_slice-entries.ensures.value ∙ ap (λ (l : LogRecord). l.entries) c.log.view_is in
    (table_row c.args.run.now.logs c.args.table.now _ _ c.as_slice-entries.result.now c.as_slice-row.result.now c.index.result.now c.requires log.0 entries c.index.ensures c.as_slice-row.ensures).1

pub class_next-requires-clause-kinds : goal.class_next-requires-clause-kinds
class_next-requires-clause-kinds c =
    let runs = ap (λ (r : RunRecord). r.logs) c.run.view_is in
    let log = read_log _ _ _ _ c.index-as_slice-k.result c.in-Some.ensures.log (c.as_slice.ensures.value ∙ runs) c.index-as_slice-k.is in
    let entries = c.as_slice-entries.ensures.value ∙ ap (λ (l : LogRecord). l.entries) c.log.view_is in
    table_kinds c.args.run.now.logs c.args.table.now _ _ c.as_slice-entries.result.now c.as_slice-kinds.result.now c.index-2.result.now c.requires log.0 entries c.index-2.ensures c.as_slice-kinds.ensures

pub returns-clause-class : goal.returns-clause-class
returns-clause-class c =
    let runs = ap (λ (r : RunRecord). r.logs) c.run.view_is in
    let log = read_log _ _ _ _ c.index-as_slice-k.result c.in-Some.ensures.log (c.as_slice.ensures.value ∙ runs) c.index-as_slice-k.is in
    let entries = c.as_slice-entries.ensures.value ∙ ap (λ (l : LogRecord). l.entries) c.log.view_is in
    let row = table_row c.args.run.now.logs c.args.table.now _ _ c.as_slice-entries.result.now c.as_slice-row.result.now c.index.result.now c.requires log.0 entries c.index.ensures c.as_slice-row.ensures in
    let at : c.args.e.now.at ≡ suc (c.e.inside.at - 1) = (let h = c.e.invariant in let ats = ap (λ (e : Place). e.at) c.e.view_is in omega arith) in
    class_read _ _ _ _ _ _ _ c.in-Some.ensures.run.rising log.0 (log.1 ∙ ap (λ (e : Place). e.proc) c.e.view_is) at
    (rw (c.len.ensures ∙ c.args.table.now.messages.ok.0, entries, row.0) at c.class_next.ensures)
