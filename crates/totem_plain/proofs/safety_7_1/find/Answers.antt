use Rattle.totem_evs.specs.declared.spec.SpecNo.TheVariants as spec
use Rattle.totem_search.proofs.Searching.{finds_in}
use Rattle.totem_plain.proofs.Alone.{reached_events, all_reached}
use Rattle.totem_plain.proofs.safety_7_1.find.Goals as goal

pub bad_places-requires : goal.bad_places-requires
bad_places-requires c = reached_events _ _

pub returns : goal.returns
returns c = finds_in c.args.run.now.logs c.args.ring.now c.bad_places.result _ spec.Safety (all_reached _ _) (λ ps h. h) (λ ps h. h) c.bad_places.ensures
