use Rattle.totem_table.proofs.Common.{◌≡◌, [], get_or, map, take, RowNames, kinds_in}
use Rattle.totem_table.proofs.Checking.{HoldsTo}
use Rattle.totem_table.proofs.checks.kinds_of.Given as goal

abbrev pub invariant-loop-k : goal.invariant-loop-k
invariant-loop-k l = record {
  named : HoldsTo (λ k log. RowNames l.messages l.confs log.entries (get_or l.rows k [])) l.logs l.k;
  kinds : l.kinds.items ≡ map kinds_in (take l.k l.logs);
}
