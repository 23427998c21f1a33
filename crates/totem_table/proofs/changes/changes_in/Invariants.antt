use Rattle.totem_table.specs.Changes.{ListsChanges}
use Rattle.totem_table.proofs.changes.changes_in.Given as goal

abbrev pub invariant-loop-at : goal.invariant-loop-at
invariant-loop-at l = ListsChanges l.entries l.at l.list.items
