use Rattle.totem_evs.specs.declared.spec.SpecNo.TheVariants as spec
use Rattle.totem_search.proofs.Searching.{finds}
use Rattle.totem_search.proofs.Unsent.{unsent_events, all_sent}
use Rattle.totem_search.proofs.unsent_1_3.find_unsent.Goals as goal

pub bad_places-requires : goal.bad_places-requires
bad_places-requires g c = unsent_events _

pub returns : goal.returns
returns g c = finds (g.Q.QuickTests.of c.args.quick.now) c.bad_places.result _ spec.Unsent (all_sent _) (λ ps h. h) (λ ps h. h) c.bad_places.ensures
