use Rattle.totem_table.proofs.Common.{length, Along, ListsChanges}
use Rattle.totem_table.proofs.changes.Changes.of.Given as goal

abbrev pub invariant-loop-log : goal.invariant-loop-log
invariant-loop-log l = Along (λ log row. ListsChanges log.entries (length log.entries) row) l.logs l.rows.items l.log-index
