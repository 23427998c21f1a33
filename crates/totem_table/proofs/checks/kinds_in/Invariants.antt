use Rattle.totem_table.proofs.Common.{◌≡◌, get_or, map, take, NamedBy, kind_of}
use Rattle.totem_table.proofs.Checking.{HoldsTo}
use Rattle.totem_table.proofs.checks.kinds_in.Given as goal

abbrev pub invariant-loop-at : goal.invariant-loop-at
invariant-loop-at l = record {
  named : HoldsTo (λ i entry. NamedBy l.messages l.confs entry (get_or l.row i 0)) l.entries l.at;
  kinds : l.kinds.items ≡ map kind_of (take l.at l.entries);
}
