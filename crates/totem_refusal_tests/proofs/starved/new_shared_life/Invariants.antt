use Rattle.totem_script.proofs.Common.{first_rank}
use Rattle.totem_refusal_tests.proofs.starved.new_shared_life.Given as goal

abbrev pub ghosts-shared_life-L-Ledger : goal.ghosts-shared_life-L-Ledger
ghosts-shared_life-L-Ledger g a = record { name = a.blank.name; parts = a.blank.parts }

abbrev pub ghosts-shared_life-L-BookName : goal.ghosts-shared_life-L-BookName
ghosts-shared_life-L-BookName g a = record { journal = a.blank.journal; me = first_rank 1; ring = record { seq = 4; rep = 1 }; members = a.members.now }
