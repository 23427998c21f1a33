use Rattle.totem_cert.proofs.Common.{◌-◌, ◌^◌, length, IsWalking}
use Rattle.totem_cert.specs.Visited.{IsNoted}
use Rattle.totem_cert.proofs.walk.walk_round.Given as goal

abbrev pub invariant-steps : goal.invariant-steps
invariant-steps l = record {
  walking : IsWalking l.run.logs l.start l.steps.items l.next;
  noted : IsNoted l.seen l.steps.items;
}

abbrev pub decreases-steps : goal.decreases-steps
decreases-steps l = 2 ^ 64 - length l.steps.items
