use Rattle.totem_evs.specs.declared.spec.SpecNo.TheVariants as spec
use Rattle.totem_pass_d.proofs.Facts.{facts_of}
use Rattle.totem_pass_d.proofs.Searching.{answered}
use Rattle.totem_search.proofs.Meeting.{atomic}
use Rattle.totem_pass_d.proofs.AtomicityFaults.{deliveries_begin}
use Rattle.totem_pass_d.proofs.atomicity_4.find.Goals as goal

pub least_found-requires-clause-begins : goal.least_found-requires-clause-begins
least_found-requires-clause-begins c = deliveries_begin _ _ _ (facts_of c.args.stays.now c.requires.known)

pub returns : goal.returns
returns c = answered c.least_found.result c.args.stays.now.run.now.logs c.args.stays.now.ring spec.Atomicity (atomic _ _) c.least_found.ensures
