use Rattle.totem_judge.specs.Members.{AllHaveLogs}
use Rattle.totem_judge.proofs.members.all_have_logs.Given as goal

abbrev pub invariant-loop-member : goal.invariant-loop-member
invariant-loop-member l = AllHaveLogs l.logs l.members l.member-index
