use Rattle.totem_names.proofs.Common.{drop, Comes, seen}
use Rattle.totem_names.specs.Numbers.{word_at}
use Rattle.totem_names.proofs.reading.word.Given as goal

abbrev pub invariant-loop-want : goal.invariant-loop-want
invariant-loop-want g l =
    let known = seen g.S.Source.remaining g.S.Source.failures in
    Comes (known l.fn.source) (known l.source) (word_at l.fault l.word) (word_at l.fault (drop l.want-index l.word))
