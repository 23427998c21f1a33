use Rattle.totem_recover.proofs.Common.{◌≡◌, take, first_ranks}
use Rattle.totem_recover.proofs.lives.first_lives.Given as goal

abbrev pub invariant-loop-id : goal.invariant-loop-id
invariant-loop-id l = l.lives.items ≡ first_ranks (take l.id-index l.ids)
