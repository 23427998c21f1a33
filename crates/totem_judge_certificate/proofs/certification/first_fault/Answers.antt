use Rattle.totem_judge_certificate.proofs.Faulty.{names_twins, names_shared}
use Rattle.totem_judge_certificate.proofs.certification.first_fault.Goals as goal

pub returns-then-spread : goal.returns-then-spread
returns-then-spread c = names_twins _ _ _ c.requires.run.rising c.requires.matches c.requires.known c.if-not-sends_are_below.ensures c.if-spread.true

pub returns-else-spread : goal.returns-else-spread
returns-else-spread c = names_shared _ _ _ c.requires.run.rising c.requires.matches c.requires.known c.requires.unclean c.if-not-sends_are_below.ensures c.if-spread.false
