use Rattle.totem_pass_d.proofs.Searching.{NoneBefore}
use Rattle.totem_pass_d.proofs.search.first_found.Given as goal

abbrev pub invariant-loop-stay : goal.invariant-loop-stay
invariant-loop-stay g l = NoneBefore l.stay-items (g.F.Finder.reaches l.finder) (g.F.Finder.holds l.finder) l.stay-index
