use Rattle.totem_judge_certificate.proofs.Common.{refl, ◌∙◌, ap, length, arith, slice_get_read, LogRecord}
use Rattle.totem_judge_certificate.proofs.Walking.{head_read, ahead_of}
use Rattle.totem_judge_certificate.proofs.walk.entry_at.Goals as goal

pub offset_bounds-entries-at : goal.offset_bounds-entries-at
offset_bounds-entries-at c =
    let read = head_read _ _ _ _ _ c.index-logs-head.result c.requires.matches c.requires.head c.index-logs-head.is in
    let entries = c.as_slice-entries.ensures.value ∙ ap (λ (l : LogRecord). l.entries) c.log.view_is in
    omega (arith, read.within, ap length entries, ap length c.as_slice-entries.ensures.value, c.as_slice-entries.ensures.entries.few)

pub bounds-entries-at : goal.bounds-entries-at
bounds-entries-at c =
    let read = head_read _ _ _ _ _ c.index-logs-head.result c.requires.matches c.requires.head c.index-logs-head.is in
    rw (c.as_slice-entries.ensures.value ∙ ap (λ (l : LogRecord). l.entries) c.log.view_is) read.within

pub returns : goal.returns
returns c =
    let read = head_read _ _ _ _ _ c.index-logs-head.result c.requires.matches c.requires.head c.index-logs-head.is in
    let entries = c.as_slice-entries.ensures.value ∙ ap (λ (l : LogRecord). l.entries) c.log.view_is in
    let at_entry = slice_get_read c.as_slice-entries.result.now _ _ c.index-entries-at.result refl (rw (← entries) at read.within) c.index-entries-at.is in
    ahead_of _ _ _ _ _ _ _ _ c.requires.head read.log_is read.at_is (rw entries at at_entry)
