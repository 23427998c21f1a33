use Rattle.totem_evs.specs.declared.spec.SpecNo.TheVariants as spec
use Rattle.totem_search.proofs.Searching.{finds}
use Rattle.totem_search.proofs.Bad.{no_two_forms, forms_break, breaks_are_forms}
use Rattle.totem_search.proofs.configuration_2_3.find_two_forms.Goals as goal

pub returns : goal.returns
returns g c = finds (g.Q.QuickTests.of c.args.quick.now) c.least_pair.result _ spec.Configuration (no_two_forms _) (forms_break _) (breaks_are_forms _) c.least_pair.ensures
