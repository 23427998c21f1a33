use Rattle.totem_thread_tests.proofs.recorded.book_of.Given as goal

abbrev pub ghosts-live-L-Ledger : goal.ghosts-live-L-Ledger
ghosts-live-L-Ledger g a = record { name = a.blank.name; parts = a.blank.parts }

abbrev pub ghosts-live-L-BookName : goal.ghosts-live-L-BookName
ghosts-live-L-BookName g a = record { journal = a.blank.journal; me = a.me; ring = record { seq = 4; rep = 1 }; members = a.members.now }
