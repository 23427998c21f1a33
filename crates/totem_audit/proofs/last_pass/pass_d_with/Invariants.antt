use Rattle.totem_audit.proofs.last_pass.pass_d_with.Given as goal

abbrev pub ghosts-shared : goal.ghosts-shared
ghosts-shared g a = record { logs = a.jobs.now.run.now.logs; rings = a.jobs.now.rings.items }
