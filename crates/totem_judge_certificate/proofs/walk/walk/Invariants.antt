use Rattle.totem_judge_certificate.proofs.Common.{◌≡◌, ◌-◌, ◌^◌, length, IsPassed, AreClasses, IsCleanTo}
use Rattle.totem_judge_certificate.proofs.walk.walk.Given as goal

abbrev pub invariant-loop-head : goal.invariant-loop-head
invariant-loop-head l = record {
  as_many : length l.passed ≡ length l.lines;
  passed : IsPassed l.lines l.passed l.last;
  classes : AreClasses l.logs l.lines l.classes l.last;
  clean : IsCleanTo l.logs l.lines l.last;
}

abbrev pub decreases-loop-head : goal.decreases-loop-head
decreases-loop-head l = 2 ^ 32 - l.last
