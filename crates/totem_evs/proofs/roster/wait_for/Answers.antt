use Rattle.std.proofs.lemmas.List.{take_all}
use Rattle.totem_evs.proofs.Waits.{waits_more, waits_same, taken_more}
use Rattle.totem_evs.proofs.roster.wait_for.Goals as goal
use Rattle.totem_evs.proofs.roster.wait_for.Goals.{then-not-has_begun+in_ok-add, else-not-has_begun}

pub loop-member-preserved : goal.loop-member-preserved
loop-member-preserved c =
    rw (taken_more c.args.members.now c.loop-member.member-index c.member-item.result c.loop-member-test.true c.member-item.is)
    (elim c.if-not-has_begun.branch [
      | then-not-has_begun+in_ok-add w ↦ rw w.waiting-is (waits_more _ _ _ _ _ _ c.loop-member.invariant (λ has. absurd (let k = c.has_begun.ensures.1 has in let f = w.if-not-has_begun.true in cc)) w.in_ok-add.ensures)
      | else-not-has_begun w ↦ rw w.waiting-is (waits_same _ _ _ _ _ c.loop-member.invariant (c.has_begun.ensures.0 w.if-not-has_begun.false))
    ])

pub returns : goal.returns
returns c = rw (← take_all c.loop-member.member-index c.args.members.now c.loop-member-test.false) c.loop-member.invariant
