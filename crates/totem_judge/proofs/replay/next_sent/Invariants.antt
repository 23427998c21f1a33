use Rattle.totem_judge.specs.Lists.{AreUnsent}
use Rattle.totem_judge.proofs.replay.next_sent.Given as goal

abbrev pub invariant-loop-index : goal.invariant-loop-index
invariant-loop-index l = AreUnsent l.list l.log l.from l.index
