use Rattle.totem_pass_d.proofs.Common.{BreaksGapIn, IsInside, NoneBelow}
use Rattle.totem_pass_d.proofs.gap_6_3.always_keep_up.Given as goal

abbrev pub invariant-loop-at : goal.invariant-loop-at
invariant-loop-at l = NoneBelow IsInside (BreaksGapIn l.stays.run.now.logs l.stays.ring) l.leader l.at
