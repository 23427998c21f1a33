use Rattle.totem_judge.specs.Members.{AreLogsOfMembers}
use Rattle.totem_judge.proofs.members.logs_of.Given as goal

abbrev pub invariant-loop-index : goal.invariant-loop-index
invariant-loop-index l = AreLogsOfMembers l.logs l.members l.index l.set
