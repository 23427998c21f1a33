use Rattle.totem_walk.proofs.Common.{◌≡◌, ◌+◌, AreDeliveriesBefore}
use Rattle.totem_walk.proofs.deliveries.Deliveries.build.Given as goal

abbrev pub invariant-loop-at : goal.invariant-loop-at
invariant-loop-at l = record {
  known : AreDeliveriesBefore l.deliveries l.log l.ring l.at;
  counted : l.looks ≡ l.initial.looks + l.at;
}
