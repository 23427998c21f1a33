use Rattle.std.proofs.Common.{◌≡◌, take}
use Rattle.totem_recover.proofs.sending.copies_of.Given as goal

abbrev pub invariant-loop-body : goal.invariant-loop-body
invariant-loop-body l = l.copies.items ≡ take l.body-index l.bodies
