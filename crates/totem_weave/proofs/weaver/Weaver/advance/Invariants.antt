use Rattle.totem_weave.proofs.Common.{◌≡◌, ◌-◌, ◌^◌, length, IsUnderWay}
use Rattle.totem_weave.proofs.Rounds.{AdvancedSoFar}
use Rattle.totem_weave.proofs.weaver.Weaver.advance.Given as goal

abbrev pub invariant-steps : goal.invariant-steps
invariant-steps l = record {
  under_way : IsUnderWay l.tracks l.self;
  ring : l.self.ring ≡ l.initial.self.ring;
  so_far : AdvancedSoFar l.initial.self l.self l.moved;
}

-- each step adds to the moves, and a list of them has a length below 2 ^ 64
abbrev pub decreases-steps : goal.decreases-steps
decreases-steps l = 2 ^ 64 - length l.self.moves.items
