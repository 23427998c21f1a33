use Rattle.totem_ring.proofs.Common.{◌<◌, ◌-◌, length, refl, sym, ◌∙◌, ap, arith, Held, holds_above}
use Rattle.totem_ring.proofs.Last.{last_above}
use Rattle.totem_ring.proofs.held.Held.holds_above.Goals as goal

pub returns-in-Some : goal.returns-in-Some
returns-in-Some c =
    let some : 0 < length c.self.inside.messages.entries = c.in-Some.ensures.variant.0 refl in
    sym (last_above 0 (length c.self.inside.messages.entries - 1) c.args.seq c.self.inside.messages.entries (c.in-Some.number.now, c.in-Some.field-0-1.now) c.self.invariant.rises
    (omega arith) c.in-Some.ensures.last)
    ∙ ap (λ (es : Held). holds_above es c.args.seq) c.self.view_is
