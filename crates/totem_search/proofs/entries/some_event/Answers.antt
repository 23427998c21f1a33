use Rattle.totem_judge_run.proofs.Common.{refl, ◌∙◌, ap, slice_get_read, LogRecord, RunRecord}
use Rattle.totem_search.specs.Entries.{HasOne}
use Rattle.totem_search.proofs.Loops.{none_more, none_at, none_of_run, at_log, denied, yes_is, no_is}
use Rattle.totem_search.proofs.entries.some_event.Goals as goal

pub returns-then-some_entry : goal.returns-then-some_entry
returns-then-some_entry g c =
    let runs = ap (λ (r : RunRecord). r.logs) c.run.view_is in
    let at = slice_get_read c.as_slice-log-items.result.now _ c.loop-log.log-index c.log-item.result refl c.loop-log-test.true c.log-item.is in
    let entries = ap (λ (l : LogRecord). l.entries) c.log.view_is in
    yes_is (at_log (λ p es. HasOne (g.T.EntryTest.holds c.args.test.now) es) _ _ _ (rw runs at c.as_slice-log-items.ensures.run.rising) (rw (c.as_slice-log-items.ensures.value ∙ runs) at at) (rw (c.as_slice.ensures.value ∙ entries) at (c.some_entry.ensures.0 c.if-some_entry.true)))

pub loop-log-preserved : goal.loop-log-preserved
loop-log-preserved g c =
    let at = slice_get_read c.as_slice-log-items.result.now _ c.loop-log.log-index c.log-item.result refl c.loop-log-test.true c.log-item.is in
    let entries = ap (λ (l : LogRecord). l.entries) c.log.view_is in
    none_more _ _ (none_at _ _ _ _ at (rw (c.as_slice.ensures.value ∙ entries) at (denied _ c.if-some_entry.false c.some_entry.ensures))) c.loop-log.invariant

pub returns : goal.returns
returns g c =
    let runs = ap (λ (r : RunRecord). r.logs) c.run.view_is in
    no_is (λ (p, h). none_of_run (λ p es. HasOne (g.T.EntryTest.holds c.args.test.now) es) _ _ (rw (c.as_slice-log-items.ensures.value ∙ runs) at c.loop-log-test.false) (λ p (i, x, at, h). cc) (rw (c.as_slice-log-items.ensures.value ∙ runs) at c.loop-log.invariant) p h)
