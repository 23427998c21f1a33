use Rattle.totem_books.proofs.Common.{ap, sym, subst, ◌∙◌, SeatRecord, AreEntered, ShareNoPlace}
use Rattle.totem_books.proofs.Entering.{entered_whole, no_place_of_both}
use Rattle.totem_books.proofs.meeting.tell_apart.Goals as goal

pub returns-clause-apart : goal.returns-clause-apart
returns-clause-apart g c =
    let journal = c.args.kept.now.journal in let one = c.one.inside in let other = c.other.inside in
    let h : AreEntered one.pen.mark journal.entries 0 one.stubs.items = entered_whole one.pen.mark one.pen.seen journal.entries one.stubs.items c.one.invariant.3 c.look.ensures.2 in
    let k : AreEntered other.pen.mark journal.entries 0 other.stubs.items =
    subst (λ j. AreEntered other.pen.mark j.entries 0 other.stubs.items) c.look.ensures.0 (entered_whole other.pen.mark other.pen.seen c.look.new.self.entries other.stubs.items c.other.invariant.3 c.look-2.ensures.2) in
    subst (λ (t : SeatRecord). ShareNoPlace c.args.one.now.stubs t.stubs) c.other.view_is (subst (λ (s : SeatRecord). ShareNoPlace s.stubs other.stubs.items) c.one.view_is
    (no_place_of_both journal.entries one.pen.mark other.pen.mark one.stubs.items other.stubs.items h k
    (λ e. c.apart.ensures.2 (ap (λ p. p.mark) c.look.ensures.1 ∙ (e ∙ sym (ap (λ p. p.mark) c.look-2.ensures.1))))))
