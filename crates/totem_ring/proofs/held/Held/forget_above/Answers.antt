use Rattle.totem_ring.proofs.Forgetting.{KeepsAru-up_to}
use Rattle.totem_ring.proofs.held.Held.forget_above.Goals as goal

pub invariant_of-self : goal.invariant_of-self
invariant_of-self c = rw (c.cut_above.ensures, c.min-self-inside.ensures) (KeepsAru-up_to _ _ _ c.self.invariant)
