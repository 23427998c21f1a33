use Rattle.totem_judge_certificate.specs.Spreads.{AreEarlyTo}
use Rattle.totem_judge_certificate.proofs.sends.sends_are_below.Given as goal

abbrev pub invariant-loop-index : goal.invariant-loop-index
invariant-loop-index l = AreEarlyTo l.logs l.lines l.spread l.index 0
