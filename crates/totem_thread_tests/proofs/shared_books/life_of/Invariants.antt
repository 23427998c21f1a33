use Rattle.totem_threads.proofs.Common.{first_rank}
use Rattle.totem_thread_tests.proofs.shared_books.life_of.Given as goal

abbrev pub ghosts-live-L-Ledger : goal.ghosts-live-L-Ledger
ghosts-live-L-Ledger g a = record { name = a.blank.name; parts = a.blank.parts }

abbrev pub ghosts-live-L-BookName : goal.ghosts-live-L-BookName
ghosts-live-L-BookName g a = record { journal = a.blank.journal; me = first_rank 1; ring = record { seq = 4; rep = 1 }; members = a.members.now }
