use Rattle.totem_judge.proofs.Common.{refl, ap, slice_get_read, LogRecord}
use Rattle.totem_judge.proofs.Steps.{adds_none, adds_more}
use Rattle.totem_judge.proofs.pending.add_pending.Goals as goal

pub loop-index-init : goal.loop-index-init
loop-index-init c = adds_none c.args.traffic.now c.args.logs.now c.args.out.now.items

pub loop-index-preserved : goal.loop-index-preserved
loop-index-preserved c =
    let log = c.index-logs-index.result in
    let at = slice_get_read c.args.logs.now _ c.loop-index.index log refl c.loop-index-test.true c.index-logs-index.is in
    let procs = ap (λ (l : LogRecord). l.proc) c.log.view_is in
    adds_more c.args.traffic.now c.args.logs.now c.loop-index.index log.proc c.args.out.now.items c.loop-index.out.items c.push_pending.new.out.items (record { log = log; stands = at; proc = refl }) (rw procs at c.in_ok-push_pending.ensures) c.loop-index.invariant
