use Rattle.std.proofs.Common.{◌≤◌}
use Rattle.totem_pass_d.proofs.GapFaults.{ApartFrom}
use Rattle.totem_pass_d.proofs.gap_6_3.last_common.Given as goal

abbrev pub invariant-back : goal.invariant-back
invariant-back l = record { apart : ApartFrom l.stays.run.now.logs l.stays.ring l.leader.proc l.follower.proc l.until l.next; until : l.next ≤ l.leader.end }

abbrev pub decreases-back : goal.decreases-back
decreases-back l = l.next
