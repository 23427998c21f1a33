use Rattle.totem_stitch.specs.Building.{KnowsLog}
use Rattle.totem_stitch.proofs.table.Table.build.Given as goal

abbrev pub invariant-loop-at : goal.invariant-loop-at
invariant-loop-at l = KnowsLog l.table l.log l.at
