use Rattle.totem_threads.proofs.Common.{take, AreLogsOf}
use Rattle.totem_threads.proofs.logs.logs_of.Given as goal

abbrev pub invariant-loop-book : goal.invariant-loop-book
invariant-loop-book l = AreLogsOf (take l.book-index l.books) l.logs.items
