use Rattle.totem_judge_run.proofs.Common.{refl, sym, ◌∙◌, ap, List, slice_get_read, LogRecord, RunRecord, log_of, log_of_at}
use Rattle.totem_search.proofs.Searching.{none_before_more, none_at_end, least_here}
use Rattle.totem_search.proofs.search.least.Goals as goal

pub least_in-requires-clause-log : goal.least_in-requires-clause-log
least_in-requires-clause-log g c =
    let runs = ap (λ (r : RunRecord). r.logs) c.run.view_is in
    let at = slice_get_read c.as_slice-log-items.result.now _ c.loop-log.log-index c.log-item.result refl c.loop-log-test.true c.log-item.is in
    let procs = ap (λ (l : LogRecord). l.proc) c.log.view_is in
    let entries = ap (λ (l : LogRecord). l.entries) c.log.view_is in
    c.as_slice.ensures.value ∙ entries ∙ sym (log_of_at c.args.run.now.logs _ _ (rw runs at c.as_slice-log-items.ensures.run.rising) (rw (c.as_slice-log-items.ensures.value ∙ runs) at at))
    ∙ ap (λ (r : List LogRecord). log_of r c.log-item.result.proc) c.requires.run ∙ ap (λ p. log_of (g.R.Relation.of c.args.relation.now) p) (sym procs)

pub returns-in-Some : goal.returns-in-Some
returns-in-Some g c =
    let runs = ap (λ (r : RunRecord). r.logs) c.run.view_is in
    let at = slice_get_read c.as_slice-log-items.result.now _ c.loop-log.log-index c.log-item.result refl c.loop-log-test.true c.log-item.is in
    let procs = ap (λ (l : LogRecord). l.proc) c.log.view_is in
    let entries = ap (λ (l : LogRecord). l.entries) c.log.view_is in
    least_here _ _ _ _ _ c.requires.begins (rw runs at c.as_slice-log-items.ensures.run.rising) (rw (c.as_slice-log-items.ensures.value ∙ runs) at at)
    (rw (c.as_slice.ensures.value ∙ entries, procs) at (rw c.in-Some.is at c.in_ok-list.ensures))
    (rw (c.as_slice-log-items.ensures.value ∙ runs) at c.loop-log.invariant)

pub loop-log-preserved : goal.loop-log-preserved
loop-log-preserved g c =
    let at = slice_get_read c.as_slice-log-items.result.now _ c.loop-log.log-index c.log-item.result refl c.loop-log-test.true c.log-item.is in
    let procs = ap (λ (l : LogRecord). l.proc) c.log.view_is in
    let entries = ap (λ (l : LogRecord). l.entries) c.log.view_is in
    none_before_more _ _ _ _ at (rw (c.as_slice.ensures.value ∙ entries, procs) at (rw c.in_default.is at c.in_ok-list.ensures)) c.loop-log.invariant

pub returns : goal.returns
returns g c =
    let runs = ap (λ (r : RunRecord). r.logs) c.run.view_is in
    none_at_end _ _ _ c.requires.begins (rw (c.as_slice-log-items.ensures.value ∙ runs) at c.loop-log-test.false) (rw (c.as_slice-log-items.ensures.value ∙ runs) at c.loop-log.invariant)
