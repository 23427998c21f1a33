use Rattle.totem_judge.specs.Lists.{AreSkipped}
use Rattle.totem_judge.proofs.replay.next_got.Given as goal

abbrev pub invariant-loop-index : goal.invariant-loop-index
invariant-loop-index l = AreSkipped l.list l.log l.from l.index
