use Rattle.std.proofs.Common.{◌≡◌, ◌+◌, length}
use Rattle.totem_ring.proofs.UpSteps.{IsSoFar}
use Rattle.totem_ring.proofs.held.Held.going_up.Given as goal

abbrev pub invariant-loop-number : goal.invariant-loop-number
invariant-loop-number l = record { so_far : IsSoFar l.up.items l.number l.handed l.safe_to l.messages.entries; counts : l.number ≡ l.handed + length l.up.items }
