use Rattle.totem_weave.proofs.Common.{◌≡◌, drop, recorded}
use Rattle.totem_weave.proofs.recorded.book_of.Given as goal

abbrev pub invariant-loop-book : goal.invariant-loop-book
invariant-loop-book l = recorded l.fn.ring (drop l.book-index l.books) l.proc ≡ recorded l.fn.ring l.books l.proc
