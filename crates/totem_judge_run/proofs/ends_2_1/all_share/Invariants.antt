use Rattle.totem_judge_run.proofs.Common.{AllWithin, SharesEnd}
use Rattle.totem_judge_run.proofs.ends_2_1.all_share.Given as goal

abbrev pub invariant-loop-member : goal.invariant-loop-member
invariant-loop-member l = AllWithin (SharesEnd l.run.logs l.conf) l.members 0 l.member-index
