use Rattle.totem_books.proofs.Common.{◌≡◌, ◌<◌, ℕ, IsMet}
use Rattle.totem_books.proofs.meeting.meet_all.Given as goal

abbrev pub invariant-loop-at : goal.invariant-loop-at
invariant-loop-at g l = record {
  book : l.kept.book ≡ l.fn.kept.book;
  seats : l.seats ≡ l.fn.seats;
  met : (j : ℕ) → j < l.at → IsMet l.fn.kept.book.calls l.fn.seats j;
}
