use Rattle.totem_evs.specs.declared.spec.SpecNo.TheVariants as spec
use Rattle.totem_search.proofs.Searching.{finds_in}
use Rattle.totem_search.proofs.Meeting.{atomic}
use Rattle.totem_plain.proofs.Partings.{deliveries_begin}
use Rattle.totem_plain.proofs.atomicity_4.find.Goals as goal

pub least_places-requires-clause-begins : goal.least_places-requires-clause-begins
least_places-requires-clause-begins c = deliveries_begin _ _

pub returns : goal.returns
returns c = finds_in c.args.run.now.logs c.args.ring.now c.least_places.result _ spec.Atomicity (atomic _ _) (λ ps h. h) (λ ps h. h) c.least_places.ensures
