use Rattle.totem_threads.proofs.Common.{first_rank, first_ring}
use Rattle.totem_threads.proofs.node.run_to_end.Given as goal

abbrev pub ghosts-keep_book-L-Ledger : goal.ghosts-keep_book-L-Ledger
ghosts-keep_book-L-Ledger g a = record { name = a.blank.name; parts = a.blank.parts }

abbrev pub ghosts-keep_book-L-BookName : goal.ghosts-keep_book-L-BookName
ghosts-keep_book-L-BookName g a = record { journal = a.blank.journal; me = first_rank a.ends.node; ring = first_ring; members = a.members.now }
