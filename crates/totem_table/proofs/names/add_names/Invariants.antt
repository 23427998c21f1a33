use Rattle.totem_table.proofs.Common.{◌≡◌, ◌≤◌, ◌+◌, ◌++◌, drop, length, names_in}
use Rattle.totem_table.proofs.names.add_names.Given as goal

abbrev pub invariant-loop-entry : goal.invariant-loop-entry
invariant-loop-entry g l = record {
  names : l.names.items ++ names_in g.N.Name.name_of (drop l.entry-index l.entries) ≡ l.initial.names.items ++ names_in g.N.Name.name_of l.entries;
  few : length l.names.items ≤ length l.initial.names.items + l.entry-index;
}
