use Rattle.totem_books.proofs.Common.{◌≡◌, All, take, ShareNoPlace}
use Rattle.totem_books.proofs.meeting.tell_apart_from.Given as goal

abbrev pub invariant-loop-i : goal.invariant-loop-i
invariant-loop-i g l = record {
  book : l.kept.book ≡ l.fn.kept.book;
  one : l.one ≡ l.fn.one;
  others : l.others ≡ l.fn.others;
  apart : All (λ other. ShareNoPlace other.stubs l.fn.one.stubs) (take l.i l.fn.others);
}
