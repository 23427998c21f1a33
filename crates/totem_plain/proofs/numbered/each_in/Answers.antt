use Rattle.totem_plain.proofs.Common.{refl, ap, ◌∙◌, length, arith, slice_get_read, slice_get-get_or, LogRecord, Numbering}
use Rattle.totem_plain.proofs.Numbering.{entry_more}
use Rattle.totem_plain.proofs.numbered.each_in.Goals as goal

pub loop-at-preserved : goal.loop-at-preserved
loop-at-preserved g c =
    let entries = c.as_slice-entries.ensures.value ∙ ap (λ (l : LogRecord). l.entries) c.log.view_is in
    let numbers = c.as_slice-numbers.ensures.value ∙ ap (λ (l : Numbering). l.numbers) c.line.view_is in
    let entry = slice_get_read c.as_slice-entries.result.now _ c.loop-at.at c.index-entries-at.result refl c.loop-at-test.true c.index-entries-at.is in
    let number = slice_get-get_or c.as_slice-numbers.result.now c.loop-at.at 0 (omega (arith, ap length entries, ap length numbers)) in
    entry_more _ _ _ _ _ _ (rw entries at entry) (rw numbers at number) (rw (ap (λ (l : LogRecord). l.proc) c.log.view_is, numbers) at c.if-not-is_good.ensures) c.loop-at.invariant
