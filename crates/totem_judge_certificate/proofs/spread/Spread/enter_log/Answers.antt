use Rattle.totem_judge_certificate.proofs.Common.{refl, sym, ◌∙◌, ap, length, arith, slice_get_read, LogRecord, Numbering, in_stands}
use Rattle.totem_judge_certificate.proofs.Entering.{number_within, read_in}
use Rattle.totem_judge_certificate.proofs.Spreading.{one_more, none_more, log_known}
use Rattle.totem_judge_certificate.proofs.spread.Spread.enter_log.Goals as goal
use Rattle.totem_judge_certificate.proofs.spread.Spread.enter_log.Goals.{in-Some+in_ok-enter, in_default}

pub bounds-numbers-at : goal.bounds-numbers-at
bounds-numbers-at c =
    let entries = c.as_slice-entries.ensures.value ∙ ap (λ (l : LogRecord). l.entries) c.log.view_is in
    let numbers = c.as_slice-numbers.ensures.value ∙ ap (λ (l : Numbering). l.numbers) c.line.view_is in
    number_within _ _ _ _ _ _ _ _ c.requires.matches c.requires.within c.index-logs-index.is c.index-lines-index.is entries numbers c.loop-at-test.true

pub loop-at-preserved : goal.loop-at-preserved
loop-at-preserved c =
    let entries = c.as_slice-entries.ensures.value ∙ ap (λ (l : LogRecord). l.entries) c.log.view_is in
    let numbers = c.as_slice-numbers.ensures.value ∙ ap (λ (l : Numbering). l.numbers) c.line.view_is in
    let inside = read_in _ _ _ _ _ _ _ _ _ c.requires.matches c.requires.within c.index-logs-index.is c.index-lines-index.is entries numbers c.loop-at-test.true c.index-entries-at.is in
    elim c.match-of.branch [
      | in-Some+in_ok-enter w ↦
          rw w.self-is (one_more _ _ _ _ _ _ _ _ _ _ inside (sym c.of.ensures ∙ w.in-Some.is) (in_stands _ _ _ _ _ _ _ c.requires.run.rising c.requires.matches inside) w.in_ok-enter.ensures c.loop-at.invariant)
      | in_default w ↦ rw w.self-is (none_more _ _ _ _ _ _ _ _ inside (sym c.of.ensures ∙ w.in_default.is) c.loop-at.invariant)
    ]

pub returns : goal.returns
returns c =
    let at_log = slice_get_read c.args.logs.now _ c.args.index c.index-logs-index.result refl c.requires.within c.index-logs-index.is in
    let entries = c.as_slice-entries.ensures.value ∙ ap (λ (l : LogRecord). l.entries) c.log.view_is in
    log_known _ _ _ _ _ _ at_log (omega (arith, ap length entries, c.loop-at-test.false)) c.loop-at.invariant
