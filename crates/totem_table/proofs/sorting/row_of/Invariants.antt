use Rattle.totem_table.proofs.Common.{Along, NamedBy}
use Rattle.totem_table.proofs.sorting.row_of.Given as goal

abbrev pub invariant-loop-entry : goal.invariant-loop-entry
invariant-loop-entry l = Along (λ entry number. NamedBy l.messages l.confs entry number) l.entries l.numbers.items l.entry-index
