use Rattle.totem_cert.proofs.Common.{length, ◌<◌, ◌≤◌, refl, sym, ◌∙◌, ap, arith, slice_get_read, slice_get_past, slice_get_within, LogRecord, RunRecord, log_of_at}
use Rattle.totem_cert.proofs.LineFacts.{no_entry, read_log}
use Rattle.totem_cert.proofs.step.entry_at.Goals as goal

pub returns-in_default : goal.returns-in_default
returns-in_default c = no_entry _ _ _ c.in_default.ensures.log

pub offset_bounds-as_slice-k : goal.offset_bounds-as_slice-k
offset_bounds-as_slice-k c =
    let lt : c.in-Some.k < length c.args.run.now.logs = slice_get_within _ _ _ c.in-Some.ensures.log.1 in
    let few : length c.args.run.now.logs ≤ 32 = c.in-Some.ensures.run.few in
    omega arith

pub bounds-as_slice-k : goal.bounds-as_slice-k
bounds-as_slice-k c = rw (c.as_slice.ensures.value ∙ ap (λ (r : RunRecord). r.logs) c.run.view_is) (slice_get_within _ _ _ c.in-Some.ensures.log.1)

pub returns-then-at-entries : goal.returns-then-at-entries
returns-then-at-entries c =
    let runs = ap (λ (r : RunRecord). r.logs) c.run.view_is in
    let log = read_log _ _ _ _ c.index-as_slice-k.result c.in-Some.ensures.log (c.as_slice.ensures.value ∙ runs) c.index-as_slice-k.is in
    let entries = c.as_slice-entries.ensures.value ∙ ap (λ (l : LogRecord). l.entries) c.log.view_is in
    rw (← log.1, log_of_at _ _ _ c.in-Some.ensures.run.rising log.0, ← entries) (sym (slice_get_read c.as_slice-entries.result.now _ _ c.index-entries-at.result refl c.if-at-entries.true c.index-entries-at.is))

pub returns-else-at-entries : goal.returns-else-at-entries
returns-else-at-entries c =
    let runs = ap (λ (r : RunRecord). r.logs) c.run.view_is in
    let log = read_log _ _ _ _ c.index-as_slice-k.result c.in-Some.ensures.log (c.as_slice.ensures.value ∙ runs) c.index-as_slice-k.is in
    let entries = c.as_slice-entries.ensures.value ∙ ap (λ (l : LogRecord). l.entries) c.log.view_is in
    rw (← log.1, log_of_at _ _ _ c.in-Some.ensures.run.rising log.0, ← entries) (sym (slice_get_past c.as_slice-entries.result.now _ c.if-at-entries.false))
