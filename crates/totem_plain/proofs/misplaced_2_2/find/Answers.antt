use Rattle.totem_evs.specs.declared.spec.SpecNo.TheVariants as spec
use Rattle.totem_search.proofs.Searching.{finds}
use Rattle.totem_plain.proofs.Alone.{misplaced_events, all_placed}
use Rattle.totem_plain.proofs.misplaced_2_2.find.Goals as goal

pub bad_places-requires : goal.bad_places-requires
bad_places-requires c = misplaced_events _

pub returns : goal.returns
returns c = finds c.args.run.now.logs c.bad_places.result _ spec.Misplaced (all_placed _) (λ ps h. h) (λ ps h. h) c.bad_places.ensures
