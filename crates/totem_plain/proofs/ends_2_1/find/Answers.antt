use Rattle.totem_evs.specs.declared.spec.SpecNo.TheVariants as spec
use Rattle.totem_search.proofs.Searching.{finds}
use Rattle.totem_plain.proofs.Alone.{end_events, all_end}
use Rattle.totem_plain.proofs.ends_2_1.find.Goals as goal

pub bad_places-requires : goal.bad_places-requires
bad_places-requires c = end_events _

pub returns : goal.returns
returns c = finds c.args.run.now.logs c.bad_places.result _ spec.End (all_end _) (λ ps h. h) (λ ps h. h) c.bad_places.ensures
