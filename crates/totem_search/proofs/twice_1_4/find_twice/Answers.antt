use Rattle.totem_evs.specs.declared.spec.SpecNo.TheVariants as spec
use Rattle.totem_search.proofs.Searching.{finds}
use Rattle.totem_search.proofs.Bad.{nothing_twice, twice_breaks, breaks_are_twice}
use Rattle.totem_search.proofs.twice_1_4.find_twice.Goals as goal

pub returns : goal.returns
returns g c = finds (g.Q.QuickTests.of c.args.quick.now) c.least_pair.result _ spec.Twice (nothing_twice _) (twice_breaks _) (breaks_are_twice _) c.least_pair.ensures
