use Rattle.totem_member.proofs.Common.{◌≡◌, take, map, filled_by}
use Rattle.totem_member.proofs.commit.filled.Given as goal

abbrev pub invariant-loop-member : goal.invariant-loop-member
invariant-loop-member l = l.filled.items ≡ map (filled_by l.proc l.report) (take l.member-index l.list)
