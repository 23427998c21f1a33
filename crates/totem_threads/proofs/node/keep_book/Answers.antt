use Rattle.std.proofs.Common.{arith}
use Rattle.totem_threads.proofs.FirstLives.{book_first}
use Rattle.totem_threads.proofs.node.keep_book.Goals as goal

pub returns-in-Ok-clause-first : goal.returns-in-Ok-clause-first
returns-in-Ok-clause-first g c =
    book_first _ c.in-Ok.closed.calls c.in-Ok.closed.log c.in_ok-back.back.items c.in-Ok.ensures.log
    (rw (← c.requires.start.0) (omega arith)) (rw c.requires.start.2 c.requires.first) c.in-Ok.ensures.agree c.in-Ok.ensures.covers c.in_ok-back.ensures.first
