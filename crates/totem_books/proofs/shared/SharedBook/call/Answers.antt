use Rattle.totem_books.proofs.Common.{rules, ap, ◌++◌, ◌∷◌, [], ◌∙◌, List, Receipt}
use Rattle.totem_books.proofs.Entering.{kept_entered, more_entered}
use Rattle.totem_books.proofs.shared.SharedBook.call.Goals as goal

pub invariant_of-seat-in_err-stub : goal.invariant_of-seat-in_err-stub
invariant_of-seat-in_err-stub g c =
    let seat = c.seat.inside in let pen = c.apply.new.pen in let made = c.apply.ensures in
    (search rules, search rules, search rules, kept_entered seat.pen.mark pen.mark seat.pen.seen pen.seen seat.stubs.items c.reserve.new.self.items c.seat.invariant.3 made.pen.1 made.seen c.reserve.ensures.items)

pub invariant_of-seat-2 : goal.invariant_of-seat-2
invariant_of-seat-2 g c =
    let seat = c.seat.inside in let pen = c.apply.new.pen in let made = c.apply.ensures in let stub = c.in_ok-stub.stub in (
      search rules,
      search rules,
      search rules,
      more_entered seat.pen.mark pen.mark seat.pen.seen pen.seen seat.stubs.items c.push_reserved.new.self.items stub c.seat.invariant.3 made.pen.1 c.in_ok-stub.ensures.entered
          (c.push_reserved.ensures.items ∙ ap (λ (l : List Receipt). l ++ stub ∷ []) c.reserve.ensures.items),
    )
