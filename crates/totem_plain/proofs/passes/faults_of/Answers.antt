use Rattle.totem_plain.proofs.Listing.{rings_more, all_rings}
use Rattle.totem_plain.proofs.passes.faults_of.Goals as goal

pub loop-index-preserved : goal.loop-index-preserved
loop-index-preserved c = rings_more _ _ _ _ c.index-rings-index.result _ _ _ c.loop-index-test.true c.index-rings-index.is c.in_ok-faults.ensures c.in_ok-found.ensures c.loop-index.invariant

pub returns : goal.returns
returns c = all_rings _ _ _ _ _ c.loop-index-test.false c.loop-index.invariant
