use Rattle.totem_evs.specs.declared.spec.SpecNo.TheVariants as spec
use Rattle.totem_search.proofs.Searching.{finds_in}
use Rattle.totem_plain.proofs.Alone.{installed_events, all_installed}
use Rattle.totem_plain.proofs.installed_7_2.find.Goals as goal

pub bad_places-requires : goal.bad_places-requires
bad_places-requires c = installed_events _ _

pub returns : goal.returns
returns c = finds_in c.args.run.now.logs c.args.ring.now c.bad_places.result _ spec.Installed (all_installed _ _) (λ ps h. h) (λ ps h. h) c.bad_places.ensures
