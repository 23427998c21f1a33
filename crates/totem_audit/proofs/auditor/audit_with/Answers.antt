use Rattle.totem_audit.proofs.Soundness.{sound_if_ok}
use Rattle.totem_audit.proofs.auditor.audit_with.Goals as goal

pub returns-clause-sound : goal.returns-clause-sound
returns-clause-sound g c = sound_if_ok _ _ c.pass_all_with.ensures.answer
