use Rattle.totem_ring.proofs.Common.{Vec, Global, [], ◌≡◌, ◌+◌, ◌<◌, List, Some, None, sym, ◌∙◌, ap, subst, All, Message, Ring, token_refusal, numbered, after_token, IsDoneUndoably, Body}
use Rattle.totem_ring.specs.declared.outcome.RingOut.{RingOut}
use Rattle.totem_ring.specs.declared.undo.RingUndo.{RingUndo}
use Rattle.totem_ring.specs.declared.undo.RingUndo.TheVariants.{Visit as OfVisit}
use Rattle.totem_ring.proofs.VisitAnswers.{own_above, own_fits, back_again, departs}
use Rattle.totem_ring.proofs.state.RingState.visit.Goals as goal

pub hold_all-requires-clause-above : goal.hold_all-requires-clause-above
hold_all-requires-clause-above c =
    let P : List Message → Type 0 = λ ms. All (λ (m : Message). c.args.token.now.seq < m.number) ms in
    subst P (sym c.deref.ensures.value) (own_above c.args.self.now c.args.token.now _ c.in_ok-own.ensures)

pub departure-requires-clause-seq : goal.departure-requires-clause-seq
departure-requires-clause-seq c = own_fits c.args.self.now c.args.token.now _ c.requires c.in_ok-own.ensures

pub returns-in_default : goal.returns-in_default
returns-in_default c =
    let back : c.forget_above.new.self ≡ c.self.inside.held =
    back_again c.args.self.now c.args.token.now _ _ _ _ _ c.requires c.in_ok-own.ensures (ap (λ (s : Ring). s.held) c.self.view_is)
    c.deref.ensures.value c.in_ok-hold_all.ensures.ok c.forget_above.ensures in
    rw back c.self.view_is

pub returns : goal.returns
returns c =
    let inside : Ring = record {
      me = c.self.inside.me;
      ring = c.self.inside.ring;
      members = c.self.inside.members.items;
      held = c.self.inside.held;
      handed = c.self.inside.handed;
      safe_to = c.self.inside.safe_to;
      sent_aru = c.self.inside.sent_aru;
      last = c.self.inside.last;
      waiting = c.self.inside.waiting.items;
      kept = c.self.inside.kept;
    } in
    let out : RingOut = record { packets = c.in-Ok.departure.packets; handed = c.in-Ok.departure.handed } in
    let undo : RingUndo = OfVisit c.args.token.now.seq c.self.inside.handed c.self.inside.safe_to c.self.inside.sent_aru c.self.inside.last c.replace.result c.take.result in
    let new : Ring = record inside {
      held = c.hold_all.new.self;
      handed = c.self.inside.handed + c.len.result;
      safe_to = c.in-Ok.departure.safe_to;
      sent_aru = c.in-Ok.departure.leaving.aru;
      last = c.get-self-inside.result;
      waiting = c.replace.new.dest.items;
      kept = Some c.in-Ok.departure.leaving;
    } in
    let P : Ring → Type 0 = λ (now : Ring).
    token_refusal now c.args.token.now ≡ None → c.in_ok-own.own.items ≡ numbered now c.args.token.now.seq now.waiting → IsDoneUndoably out undo now new (after_token now c.args.token.now) in
    let empty : c.replace.new.dest.items ≡ [] = ap (λ (v : Vec Body Global). v.items) c.replace.ensures.after ∙ c.new.ensures.items in
    let waited : c.replace.result.items ≡ c.self.inside.waiting.items = ap (λ (v : Vec Body Global). v.items) c.replace.ensures.value in
    subst P c.self.view_is
    (λ passed own. departs inside c.args.token.now c.hold_all.new.self c.in_ok-answered.answered c.in_ok-own.own.items c.deref.result.now c.len.result c.get-self-inside.result
    c.replace.new.dest c.replace.result c.take.result c.in-Ok.departure passed own c.deref.ensures.value c.in_ok-hold_all.ensures.ok c.in_ok-answered.ensures c.in-Ok.ensures
    (c.len.ensures ∙ c.in-Ok.departure.handed.ok.0) c.get-self-inside.ensures.value empty waited c.take.ensures.value)
    c.requires c.in_ok-own.ensures
