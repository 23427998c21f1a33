use Rattle.totem_walk.proofs.Common.{◌≡◌, ◌+◌, KeepsOrderBefore}
use Rattle.totem_walk.specs.Pace.{IsPace}
use Rattle.totem_walk.proofs.order.keeps_order.Given as goal

abbrev pub invariant-loop-at : goal.invariant-loop-at
invariant-loop-at l = record {
  pace : IsPace l.log l.conf l.deliveries l.at l.pace;
  kept : KeepsOrderBefore l.log l.conf l.deliveries l.at;
  counted : l.looks ≡ l.initial.looks + l.at;
}
