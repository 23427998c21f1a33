use Rattle.totem_evs.specs.declared.spec.SpecNo.TheVariants as spec
use Rattle.totem_search.proofs.Searching.{finds_in}
use Rattle.totem_plain.proofs.Alone.{owned_events, all_owned}
use Rattle.totem_plain.proofs.own_3.find.Goals as goal

pub bad_places-requires : goal.bad_places-requires
bad_places-requires c = owned_events _ _

pub returns : goal.returns
returns c = finds_in c.args.run.now.logs c.args.ring.now c.bad_places.result _ spec.OwnDelivery (all_owned _ _) (λ ps h. h) (λ ps h. h) c.bad_places.ensures
