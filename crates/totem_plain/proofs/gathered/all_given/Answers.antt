use Rattle.totem_plain.proofs.Common.{refl, ◌∙◌, ap, slice_get_read, IfOk-weaker, Log, LogRecord, RunRecord, SomeLog}
use Rattle.totem_search.proofs.Adding.{some_more, all_added}
use Rattle.totem_plain.proofs.Gathering.{all_listed}
use Rattle.totem_plain.proofs.gathered.all_given.Goals as goal

pub loop-log-preserved : goal.loop-log-preserved
loop-log-preserved g c =
    let run = c.args.run.now.logs in
    let at = slice_get_read c.as_slice-log-items.result.now _ c.loop-log.log-index c.log-item.result refl c.loop-log-test.true c.log-item.is in
    let procs = ap (λ (l : LogRecord). l.proc) c.log.view_is in
    some_more (λ (r : Log) x. SomeLog (λ e. g.T.Gathered.gives run r.proc e x) run) _ _ c.log-item.result _ _ _ at (rw procs at c.in_ok-add_run.ensures) c.loop-log.invariant

pub returns : goal.returns
returns g c =
    let run = c.args.run.now.logs in
    let runs = ap (λ (r : RunRecord). r.logs) c.run.view_is in
    let logs = c.as_slice-log-items.ensures.value ∙ runs in
    let all = rw logs at (all_added (λ (r : Log) x. SomeLog (λ e. g.T.Gathered.gives run r.proc e x) run) _ _ _ _ c.loop-log-test.false c.loop-log.invariant) in
    IfOk-weaker c.in_order.result _ _ (λ ordered is. all_listed g.T.Ord.cmp (λ p e x. g.T.Gathered.gives run p e x) run _ _ ordered.items c.new-list.ensures.items all is) c.in_order.ensures
