use Rattle.totem_judge.proofs.Common.{◌≡◌, ◌++◌, length, AreObserved}
use Rattle.std.specs.Vec.Iter.{into_iter_items, into_iter_len}
use Rattle.totem_judge.proofs.judging.observe_all.Given as goal

abbrev pub invariant-loop-gathered : goal.invariant-loop-gathered
invariant-loop-gathered l = (l.yielded ++ into_iter_items l.gathered-iterator ≡ into_iter_items l.initial.gathered-iterator)
    × AreObserved l.logs l.lines l.yielded l.observed.items l.pending.items
    × (into_iter_len l.gathered-iterator ≡ length (into_iter_items l.gathered-iterator))
