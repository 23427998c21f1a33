use Rattle.std.proofs.Common.{sym, ◌∙◌}
use Rattle.totem_evs.proofs.lives.has_first_lives.Goals as goal

pub returns-then-life-eq1 : goal.returns-then-life-eq1
returns-then-life-eq1 c =
    let h = rw c.as_slice.ensures.value at c.name_first.ensures in
    let one = sym c.life.ensures.value ∙ c.if-life-eq1.true in
    rw (← c.log.view_is) ((λ t. (one, h.0 t)), (λ f. h.1 f.1))
