use Rattle.totem_ring.proofs.Forgetting.{KeepsAru-without}
use Rattle.totem_ring.proofs.held.Held.forget.Goals as goal

pub invariant_of-self : goal.invariant_of-self
invariant_of-self c = rw (c.remove.ensures.entries, c.min-self-inside.ensures) (KeepsAru-without _ _ _ c.get-number.ensures.positive c.self.invariant)
