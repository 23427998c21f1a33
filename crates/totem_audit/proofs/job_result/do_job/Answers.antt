use Rattle.std.proofs.Common.{rules}
use Rattle.totem_audit.proofs.Results.{none_of}
use Rattle.totem_audit.proofs.job_result.do_job.Goals as goal

pub returns-in_default : goal.returns-in_default
returns-in_default c = none_of _ c.in_ok-jobs.jobs.rings.items _ _ c.in_ok-jobs.ensures.rings (search rules) c.in_default.ensures
