use Rattle.totem_table.proofs.Common.{◌≡◌, ◌≤◌, ◌*◌, ◌++◌, drop, length, all_names}
use Rattle.totem_table.proofs.names.names_of.Given as goal

abbrev pub invariant-loop-log : goal.invariant-loop-log
invariant-loop-log g l = record {
  names : l.names.items ++ all_names g.N.Name.name_of (drop l.log-index l.logs) ≡ all_names g.N.Name.name_of l.logs;
  few : length l.names.items ≤ 1000000 * l.log-index;
}
