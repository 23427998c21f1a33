use Rattle.totem_evs.specs.declared.spec.SpecNo.TheVariants as spec
use Rattle.totem_search.proofs.Searching.{finds_in}
use Rattle.totem_search.proofs.Meeting.{causal}
use Rattle.totem_plain.proofs.Causes.{causes_begin}
use Rattle.totem_plain.proofs.causality_5.find.Goals as goal

pub least_places-requires-clause-begins : goal.least_places-requires-clause-begins
least_places-requires-clause-begins c = causes_begin _ _

pub returns : goal.returns
returns c = finds_in c.args.run.now.logs c.args.ring.now c.least_places.result _ spec.Causality (causal _ _) (λ ps h. h) (λ ps h. h) c.least_places.ensures
