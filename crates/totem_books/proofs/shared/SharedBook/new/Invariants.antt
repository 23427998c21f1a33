use Rattle.std.proofs.Common.{◌≡◌, ◌+◌, [], vec_len, All}
use Rattle.totem_books.proofs.shared.SharedBook.new.Given as goal

abbrev pub invariant-loop : goal.invariant-loop
invariant-loop g l = record {
  parts : l.all.parts + l.counter ≡ l.seats;
  none : l.all.amount ≡ 0;
  no_call : l.total.total ≡ 0;
  count : vec_len l.empty ≡ l.counter;
  named : l.journal.name ≡ g.L.BookName.journal;
  blank : l.journal.entries ≡ [];
  empty : All (λ seat. (seat.stubs ≡ []) × (seat.share ≡ 0)) l.empty.items;
  unseen : All (λ seat. seat.seen ≡ []) l.empty.items;
}
