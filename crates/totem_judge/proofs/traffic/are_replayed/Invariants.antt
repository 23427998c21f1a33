use Rattle.totem_judge.specs.Seen.{AreReplayed}
use Rattle.totem_judge.proofs.traffic.are_replayed.Given as goal

abbrev pub invariant-loop-stay : goal.invariant-loop-stay
invariant-loop-stay l = AreReplayed l.logs l.lines l.gathered l.stay-index
