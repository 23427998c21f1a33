use Rattle.totem_table.proofs.Common.{◌≡◌, take, map, kinds_in}
use Rattle.totem_table.proofs.sorting.kinds_of_all.Given as goal

abbrev pub invariant-loop-log : goal.invariant-loop-log
invariant-loop-log l = l.kinds.items ≡ map kinds_in (take l.log-index l.logs)
