use Rattle.totem_books.proofs.Common.{subst, SeatRecord, FitRising}
use Rattle.totem_books.proofs.Entering.{seen_fit}
use Rattle.totem_books.proofs.meeting.meet.Goals as goal

pub returns-clause-fit : goal.returns-clause-fit
returns-clause-fit g c =
    let kept = c.args.kept.now in let seat = c.seat.inside in
    subst (λ (s : SeatRecord). FitRising kept.book.calls 0 s.stubs) c.seat.view_is
    (seen_fit seat.pen.mark seat.pen.seen kept.journal.entries kept.book.calls seat.stubs.items c.seat.invariant.3 c.look.ensures.2 kept.entered)
