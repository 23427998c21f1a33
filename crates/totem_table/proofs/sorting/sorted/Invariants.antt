use Rattle.totem_table.proofs.Common.{Along, RowNames}
use Rattle.totem_table.proofs.sorting.sorted.Given as goal

abbrev pub invariant-loop-log : goal.invariant-loop-log
invariant-loop-log l = Along (λ log row. RowNames l.messages.items l.confs.items log.entries row) l.logs l.rows.items l.log-index
