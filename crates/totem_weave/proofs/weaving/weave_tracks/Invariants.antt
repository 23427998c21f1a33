use Rattle.totem_weave.proofs.Common.{◌≡◌, ◌-◌, ◌^◌, length, IsUnderWay}
use Rattle.totem_weave.proofs.weaving.weave_tracks.Given as goal

abbrev pub invariant-rounds : goal.invariant-rounds
invariant-rounds l = record { under_way : IsUnderWay l.tracks l.weaver; ring : l.weaver.ring ≡ l.fn.ring }

-- each round adds to the moves, and a list of them has a length below 2 ^ 64
abbrev pub decreases-rounds : goal.decreases-rounds
decreases-rounds l = 2 ^ 64 - length l.weaver.moves.items
