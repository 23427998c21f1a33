use Rattle.totem_ring.proofs.Common.{◌≡◌, ◌∙◌, sym, ap, Ring}
use Rattle.totem_ring.proofs.Holding.{undone}
use Rattle.totem_ring.proofs.Undone.{undoable_memory, message_comes}
use Rattle.totem_ring.proofs.state.RingState.on_message_with_undo.Goals as goal

pub returns-in_default-going_up : goal.returns-in_default-going_up
returns-in_default-going_up c =
    let back : c.forget.new.self ≡ c.self.inside.held =
    undone c.args.self.now c.args.message.now _ _ _ (sym c.message_refusal.ensures ∙ c.in_default.is) (ap (λ (s : Ring). s.held) (sym c.self.view_is)) c.in_ok-hold.ensures.ok c.forget.ensures in
    undoable_memory _ _ _ _ (sym c.message_refusal.ensures ∙ c.in_default.is) (rw back c.self.view_is)

pub returns : goal.returns
returns c =
    rw (← c.self.view_is) (message_comes _ c.args.message.now c.hold.new.self c.len.result c.forget_below.new.kept c.forget_below.result _ (rw (← c.self.view_is) at (sym c.message_refusal.ensures ∙ c.in_default.is))
    c.in_ok-hold.ensures.ok c.in-Ok.ensures.up c.new.ensures.items (c.len.ensures ∙ c.in-Ok.up.ok.0) c.forget_below.ensures.after c.forget_below.ensures.again)
