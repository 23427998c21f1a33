use Rattle.totem_judge.proofs.Common.{refl, ap, slice_get_read, LogRecord}
use Rattle.totem_judge.proofs.Steps.{member_more, member_skip}
use Rattle.totem_judge.proofs.members.logs_of.Goals.{then-contains, else-contains}
use Rattle.totem_judge.proofs.members.logs_of.Goals as goal

pub loop-index-preserved : goal.loop-index-preserved
loop-index-preserved c =
    let at = slice_get_read c.args.logs.now _ c.loop-index.index c.index-logs-index.result refl c.loop-index-test.true c.index-logs-index.is in
    let procs = ap (λ (l : LogRecord). l.proc) c.log.view_is in
    elim c.if-contains.branch [
      | then-contains w ↦ rw w.set-is (member_more _ c.args.members.now _ _ at c.loop-index.set w.with-set.result (rw procs at (c.contains.ensures.0 w.if-contains.true)) w.with-set.ensures.same w.with-set.ensures.others c.loop-index.invariant)
      | else-contains w ↦ rw w.set-is (member_skip _ c.args.members.now _ _ at c.loop-index.set (λ h. (let told = (rw procs at c.contains.ensures.1) h in let not = w.if-contains.false in absurd cc)) c.loop-index.invariant)
    ]
