use Rattle.totem_judge_run.proofs.Common.{refl, slice_get_read}
use Rattle.totem_judge_run.proofs.Walk.{goes_on, placed, after_failure, unfit, all_placed}
use Rattle.totem_judge_run.proofs.misplaced_2_2.first_misplaced.Goals as goal
use Rattle.totem_judge_run.proofs.misplaced_2_2.first_misplaced.Goals.{then-failed-via-then-failed, then-failed-via-else-failed+then-not-good}

pub returns-then-failed-clause-found : goal.returns-then-failed-clause-found
returns-then-failed-clause-found c =
    let log = c.args.log.now in
    let at = slice_get_read log _ c.loop-i.i c.index-log-i.result refl c.loop-i-test.true c.index-log-i.is in
    elim c.then-failed.branch [
      | then-failed-via-then-failed w ↦ after_failure log _ _ c.loop-i-test.true (rw w.if-failed.true at c.loop-i.invariant)
      | then-failed-via-else-failed+then-not-good w ↦
          unfit log _ _ _ c.loop-i-test.true at (λ fits. let h = w.if-not-good.ensures.1 fits in cc) (rw w.if-failed.false at c.loop-i.invariant)
    ]

pub returns-then-failed-clause-least : goal.returns-then-failed-clause-least
returns-then-failed-clause-least c = placed _ _ _ _ c.loop-i.invariant

pub loop-i-preserved : goal.loop-i-preserved
loop-i-preserved c =
    let at = slice_get_read c.args.log.now _ c.loop-i.i c.index-log-i.result refl c.loop-i-test.true c.index-log-i.is in
    rw c.go_past.ensures
    (goes_on c.args.log.now _ _ _ _ at (c.if-not-good.ensures.0 refl) c.is_failure-failed.ensures (rw c.if-failed.false at c.loop-i.invariant))

pub returns-clause-none : goal.returns-clause-none
returns-clause-none c = all_placed _ _ _ _ c.loop-i-test.false c.loop-i.invariant
