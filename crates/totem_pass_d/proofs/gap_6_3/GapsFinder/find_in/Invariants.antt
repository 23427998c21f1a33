use Rattle.totem_pass_d.proofs.Common.{BreaksGapIn, IsInside, NoneBelow}
use Rattle.totem_pass_d.proofs.gap_6_3.GapsFinder.find_in.Given as goal

abbrev pub invariant-loop-at : goal.invariant-loop-at
invariant-loop-at l = NoneBelow IsInside (BreaksGapIn l.self.stays.now.run.now.logs l.self.stays.now.ring) l.stay l.at
