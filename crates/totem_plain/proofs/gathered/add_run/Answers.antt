use Rattle.totem_plain.proofs.Common.{refl, ◌∙◌, ap, slice_get_read, Log, LogRecord, RunRecord, HasOne}
use Rattle.totem_search.proofs.Adding.{some_more, all_added}
use Rattle.totem_plain.proofs.Gathering.{log_added}
use Rattle.totem_plain.proofs.gathered.add_run.Goals as goal

pub loop-log-preserved : goal.loop-log-preserved
loop-log-preserved g c =
    let at = slice_get_read c.as_slice-log-items.result.now _ c.loop-log.log-index c.log-item.result refl c.loop-log-test.true c.log-item.is in
    let entries = ap (λ (l : LogRecord). l.entries) c.log.view_is in
    some_more (λ (r : Log) x. HasOne (λ e. g.T.Gathered.gives c.args.run.now.logs c.args.proc e x) r.entries) _ _ c.log-item.result _ _ _ at (rw (c.as_slice.ensures.value ∙ entries) at c.in_ok-add_log.ensures) c.loop-log.invariant

pub returns : goal.returns
returns g c =
    let runs = ap (λ (r : RunRecord). r.logs) c.run.view_is in
    let logs = c.as_slice-log-items.ensures.value ∙ runs in
    log_added (λ e x. g.T.Gathered.gives c.args.run.now.logs c.args.proc e x) _ _ _ (rw runs at c.as_slice-log-items.ensures.run.rising)
    (rw logs at (all_added (λ (r : Log) x. HasOne (λ e. g.T.Gathered.gives c.args.run.now.logs c.args.proc e x) r.entries) _ _ _ _ c.loop-log-test.false c.loop-log.invariant))
