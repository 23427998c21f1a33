use Rattle.totem_weave.proofs.Common.{take, All, IsOfMember}
use Rattle.totem_weave.proofs.membership.are_of_members.Given as goal

abbrev pub invariant-loop-book : goal.invariant-loop-book
invariant-loop-book l = All (IsOfMember l.fn.ring l.members) (take l.book-index l.books)
