use Rattle.std.proofs.Common.{rules}
use Rattle.totem_pass_d.proofs.Listing.{found_next, all_found_of}
use Rattle.totem_audit.proofs.KnownJobs.{known_set}
use Rattle.totem_audit.proofs.collecting.complete.Goals as goal

pub loop-index-preserved : goal.loop-index-preserved
loop-index-preserved g c = (
  found_next _ c.args.jobs.now.rings.items c.loop-index.index _ _ _ (search rules) c.in_ok-known_or_done.ensures.right c.in_ok-found.ensures c.loop-index.invariant.0,
  rw (c.replace-one.ensures.after) (known_set _ c.args.jobs.now.rings.items c.loop-index.known.items c.loop-index.index _ c.loop-index.invariant.1 (search rules) tt),
)

pub returns : goal.returns
returns g c = all_found_of _ c.args.jobs.now.rings.items c.loop-index.index _ (λ v. v.items) _ c.requires.jobs.rings (search rules) c.loop-index.invariant.0 c.into_faults.ensures
