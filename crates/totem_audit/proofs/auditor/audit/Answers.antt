use Rattle.totem_audit.proofs.Soundness.{sound_if_ok}
use Rattle.totem_audit.proofs.auditor.audit.Goals as goal

pub returns-clause-sound : goal.returns-clause-sound
returns-clause-sound c = sound_if_ok _ _ c.pass_all.ensures.answer
