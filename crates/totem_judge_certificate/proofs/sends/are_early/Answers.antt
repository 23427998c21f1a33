use Rattle.totem_judge_certificate.proofs.Common.{refl, ◌∙◌, ap, length, arith, slice_get_read, LogRecord, Numbering, in_stands}
use Rattle.totem_judge_certificate.proofs.Entering.{more_past, next_log, number_within, read_in}
use Rattle.totem_judge_certificate.proofs.Spreading.{one_late}
use Rattle.totem_judge_certificate.proofs.sends.are_early.Goals as goal

pub bounds-numbers-at : goal.bounds-numbers-at
bounds-numbers-at c =
    let entries = c.as_slice-entries.ensures.value ∙ ap (λ (l : LogRecord). l.entries) c.log.view_is in
    let numbers = c.as_slice-numbers.ensures.value ∙ ap (λ (l : Numbering). l.numbers) c.line.view_is in
    number_within _ _ _ _ _ _ _ _ c.requires.matches c.requires.within c.index-logs-index.is c.index-lines-index.is entries numbers c.loop-at-test.true

pub returns-then-not-is_early : goal.returns-then-not-is_early
returns-then-not-is_early c =
    let entries = c.as_slice-entries.ensures.value ∙ ap (λ (l : LogRecord). l.entries) c.log.view_is in
    let numbers = c.as_slice-numbers.ensures.value ∙ ap (λ (l : Numbering). l.numbers) c.line.view_is in
    let inside = read_in _ _ _ _ _ _ _ _ _ c.requires.matches c.requires.within c.index-logs-index.is c.index-lines-index.is entries numbers c.loop-at-test.true c.index-entries-at.is in
    one_late _ _ _ c.requires.known _ _ _ (in_stands _ _ _ _ _ _ _ c.requires.run.rising c.requires.matches inside) (λ early. let t = c.if-not-is_early.ensures.1 early in cc)

pub loop-at-preserved : goal.loop-at-preserved
loop-at-preserved c =
    let entries = c.as_slice-entries.ensures.value ∙ ap (λ (l : LogRecord). l.entries) c.log.view_is in
    let numbers = c.as_slice-numbers.ensures.value ∙ ap (λ (l : Numbering). l.numbers) c.line.view_is in
    let inside = read_in _ _ _ _ _ _ _ _ _ c.requires.matches c.requires.within c.index-logs-index.is c.index-lines-index.is entries numbers c.loop-at-test.true c.index-entries-at.is in
    more_past _ _ _ _ _ _ _ _ inside (c.if-not-is_early.ensures.0 refl) c.loop-at.invariant

pub returns : goal.returns
returns c =
    let at_log = slice_get_read c.args.logs.now _ c.args.index c.index-logs-index.result refl c.requires.within c.index-logs-index.is in
    let entries = c.as_slice-entries.ensures.value ∙ ap (λ (l : LogRecord). l.entries) c.log.view_is in
    next_log _ _ _ _ _ _ at_log (omega (arith, ap length entries, c.loop-at-test.false)) c.loop-at.invariant
