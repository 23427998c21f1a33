use Rattle.totem_judge.proofs.Common.{read_at, TurnsToConf, LeavesFrom}
use Rattle.totem_judge.proofs.Steps.{select_more, select_skip}
use Rattle.totem_judge.proofs.following.following_as.Goals.{then-turns_to+then-goes_further, then-turns_to+else-goes_further, else-turns_to}
use Rattle.totem_judge.proofs.following.following_as.Goals as goal

pub loop-stay-preserved : goal.loop-stay-preserved
loop-stay-preserved c =
    let run = c.args.logs.now in
    let conf = c.args.turn.now.conf.now in
    let at = read_at c.args.stays.now c.loop-stay.stay-index c.stay-item.result c.loop-stay-test.true c.stay-item.is in
    elim c.if-turns_to.branch [
      | then-turns_to+then-goes_further w ↦ rw w.following-is (record {
        members = c.loop-stay.invariant.members;
        logs = select_more (TurnsToConf run conf) _ _ _ at c.loop-stay.following.logs w.with-following.result (c.turns_to.ensures.0 w.if-turns_to.true) w.with-following.ensures.same w.with-following.ensures.others
            c.loop-stay.invariant.logs;
        left = select_more (LeavesFrom run conf) _ _ _ at c.loop-stay.following.left w.with-following-then-goes_further.result (c.turns_to.ensures.0 w.if-turns_to.true, w.goes_further.ensures.0 w.if-goes_further.true)
            w.with-following-then-goes_further.ensures.same w.with-following-then-goes_further.ensures.others c.loop-stay.invariant.left;
      })
      | then-turns_to+else-goes_further w ↦ rw w.following-is (record {
        members = c.loop-stay.invariant.members;
        logs = select_more (TurnsToConf run conf) _ _ _ at c.loop-stay.following.logs w.with-following.result (c.turns_to.ensures.0 w.if-turns_to.true) w.with-following.ensures.same w.with-following.ensures.others
            c.loop-stay.invariant.logs;
        left = select_skip (LeavesFrom run conf) _ _ _ at c.loop-stay.following.left (λ h. (let told = w.goes_further.ensures.1 h.1 in let not = w.if-goes_further.false in absurd cc)) c.loop-stay.invariant.left;
      })
      | else-turns_to w ↦ rw w.following-is (record {
        members = c.loop-stay.invariant.members;
        logs = select_skip (TurnsToConf run conf) _ _ _ at c.loop-stay.following.logs (λ h. (let told = c.turns_to.ensures.1 h in let not = w.if-turns_to.false in absurd cc)) c.loop-stay.invariant.logs;
        left = select_skip (LeavesFrom run conf) _ _ _ at c.loop-stay.following.left (λ h. (let told = c.turns_to.ensures.1 h.0 in let not = w.if-turns_to.false in absurd cc)) c.loop-stay.invariant.left;
      })
    ]
