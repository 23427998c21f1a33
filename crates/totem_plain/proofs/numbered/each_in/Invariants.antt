use Rattle.totem_plain.specs.Numbered.{EachIn}
use Rattle.totem_plain.proofs.numbered.each_in.Given as goal

abbrev pub invariant-loop-at : goal.invariant-loop-at
invariant-loop-at g l = EachIn (g.T.OneTest.good l.test) l.log l.line l.at
