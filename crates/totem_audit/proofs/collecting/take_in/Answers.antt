use Rattle.std.proofs.Common.{rules}
use Rattle.totem_audit.proofs.Results.{right_of}
use Rattle.totem_audit.proofs.collecting.take_in.Goals as goal

pub note-requires-clause-right : goal.note-requires-clause-right
note-requires-clause-right c = right_of _ _ _ _ _ _ c.requires.jobs.rings (search rules) (search rules) c.into_findings-findings.ensures.right
