use Rattle.std.proofs.Common.{ap, ◌∙◌, arith}
use Rattle.totem_books.proofs.Entering.{met_more, all_met, all_seen}
use Rattle.totem_books.proofs.meeting.meet_all.Goals as goal

pub loop-at-preserved : goal.loop-at-preserved
loop-at-preserved g c =
    let inv = c.loop-at.invariant in let met = c.meet_at.ensures in
    record {
      book = met.book ∙ inv.book;
      seats = met.seats ∙ inv.seats;
      met = met_more c.loop-at.kept.book.calls c.args.kept.now.book.calls c.loop-at.seats c.args.seats.now c.loop-at.at (ap (λ b. b.calls) inv.book) inv.seats met.met inv.met;
    }

pub returns-clause-agree : goal.returns-clause-agree
returns-clause-agree g c =
    all_met c.args.kept.now.book.calls c.args.seats.now (λ j within. c.loop-at.invariant.met j (omega (arith, within, c.loop-at-test.false, c.loop-at.auto.at-end)))

pub returns-clause-seen : goal.returns-clause-seen
returns-clause-seen g c =
    all_seen c.args.kept.now.book.calls c.args.seats.now (λ j within. c.loop-at.invariant.met j (omega (arith, within, c.loop-at-test.false, c.loop-at.auto.at-end)))
