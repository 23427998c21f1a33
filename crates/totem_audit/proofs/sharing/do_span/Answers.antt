use Rattle.totem_audit.proofs.KnownJobs.{one_right}
use Rattle.totem_audit.proofs.sharing.do_span.Goals as goal

pub loop-index-preserved : goal.loop-index-preserved
loop-index-preserved g c = one_right _ _ c.loop-index.results.items _ _ c.loop-index.invariant c.in_ok-perform_job.ensures.right c.in_ok-push.ensures.items
