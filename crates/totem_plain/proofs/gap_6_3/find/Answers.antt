use Rattle.totem_evs.specs.declared.spec.SpecNo.TheVariants as spec
use Rattle.totem_search.proofs.Searching.{finds_in}
use Rattle.totem_search.proofs.Meeting.{no_gaps}
use Rattle.totem_plain.proofs.Lacks.{gaps_begin}
use Rattle.totem_plain.proofs.gap_6_3.find.Goals as goal

pub least_places-requires-clause-begins : goal.least_places-requires-clause-begins
least_places-requires-clause-begins c = gaps_begin _ _

pub returns : goal.returns
returns c = finds_in c.args.run.now.logs c.args.ring.now c.least_places.result _ spec.Gap (no_gaps _ _) (λ ps h. h) (λ ps h. h) c.least_places.ensures
