use Rattle.totem_pass_d.specs.Searched.{HasPassed}
use Rattle.totem_pass_d.proofs.gap_6_3.last_following.Given as goal

abbrev pub invariant-loop-at : goal.invariant-loop-at
invariant-loop-at l = HasPassed l.stays.run.now.logs l.stays.ring l.leader.proc l.follower l.at l.last
