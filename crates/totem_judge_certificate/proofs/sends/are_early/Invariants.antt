use Rattle.totem_judge_certificate.specs.Spreads.{AreEarlyTo}
use Rattle.totem_judge_certificate.proofs.sends.are_early.Given as goal

abbrev pub invariant-loop-at : goal.invariant-loop-at
invariant-loop-at l = AreEarlyTo l.logs l.lines l.spread l.index l.at
