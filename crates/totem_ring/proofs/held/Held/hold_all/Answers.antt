use Rattle.std.proofs.Common.{◌≡◌, ◌∙◌}
use Rattle.totem_ring.proofs.Holding.{KeepsAru-grown}
use Rattle.totem_ring.proofs.VisitSteps.{Grows-messages, forgotten}
use Rattle.totem_ring.proofs.held.Held.hold_all.Goals as goal

pub invariant_of-self : goal.invariant_of-self
invariant_of-self c =
    let back : c.cut_above.new.messages.entries ≡ c.self.inside.messages.entries =
    forgotten _ _ _ _ (rw c.self.view_is c.requires.none_above) c.add_all.ensures.below c.cut_above.ensures in
    rw back c.self.invariant

pub returns-in-Err-clause-err : goal.returns-in-Err-clause-err
returns-in-Err-clause-err c =
    let back : c.cut_above.new.messages.entries ≡ c.self.inside.messages.entries =
    forgotten _ _ _ _ (rw c.self.view_is c.requires.none_above) c.add_all.ensures.below c.cut_above.ensures in
    back ∙ c.self.view_is

pub invariant_of-self-2 : goal.invariant_of-self-2
invariant_of-self-2 c = KeepsAru-grown _ _ _ _ c.self.invariant (rw c.in_default.ensures.ok (Grows-messages c.self.inside.messages.entries c.args.messages.now)) c.in_default.ensures.rises c.whole_to-self-inside.ensures
