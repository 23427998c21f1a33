use Rattle.std.proofs.Common.{rules}
use Rattle.totem_pass_d.proofs.Listing.{found_next, all_found_of}
use Rattle.totem_pass_d.proofs.pass.pass_d_of.Goals as goal

pub loop-index-preserved : goal.loop-index-preserved
loop-index-preserved c =
    let jobs = c.args.jobs.now in
    found_next jobs.run.now.logs jobs.rings.items c.loop-index.index _ _ _ (search rules) c.in_ok-findings.ensures c.in_ok-found.ensures c.loop-index.invariant

pub returns : goal.returns
returns c =
    let jobs = c.args.jobs.now in
    all_found_of jobs.run.now.logs jobs.rings.items c.loop-index.index _ (λ v. v.items) _ c.requires.rings (search rules) c.loop-index.invariant c.into_faults.ensures
