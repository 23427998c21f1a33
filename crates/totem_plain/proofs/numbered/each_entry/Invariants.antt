use Rattle.totem_plain.proofs.Numbering.{EachBefore}
use Rattle.totem_plain.proofs.numbered.each_entry.Given as goal

abbrev pub invariant-loop-index : goal.invariant-loop-index
invariant-loop-index g l = EachBefore (g.T.OneTest.good l.test) l.logs l.lines l.index
