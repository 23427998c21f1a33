use Rattle.std.proofs.Common.{◌≡◌, ◌↔◌, take}
use Rattle.totem_evs.proofs.Common.{IsTrue}
use Rattle.totem_evs.proofs.members.Members.is.Given as goal

abbrev pub invariant-loop-i : goal.invariant-loop-i
invariant-loop-i l = IsTrue l.same ↔ (take l.i l.these ≡ take l.i l.those)
