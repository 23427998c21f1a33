use Rattle.std.proofs.Common.{◌≡◌, take}
use Rattle.totem_names.proofs.lists.are_same.Given as goal

abbrev pub invariant-loop-i : goal.invariant-loop-i
invariant-loop-i g l = take l.i l.these ≡ take l.i l.those
