use Rattle.totem_threads.proofs.Common.{All, take, IsReplayed}
use Rattle.totem_threads.proofs.logs.all_replayed.Given as goal

abbrev pub invariant-loop-book : goal.invariant-loop-book
invariant-loop-book l = All IsReplayed (take l.book-index l.books)
