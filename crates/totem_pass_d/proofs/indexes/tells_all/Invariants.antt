use Rattle.totem_pass_d.specs.Indexes.{noted, Tells}
use Rattle.totem_pass_d.proofs.indexes.tells_all.Given as goal

abbrev pub invariant-loop-at : goal.invariant-loop-at
invariant-loop-at l = Tells (noted l.row) l.log l.from l.end l.at
