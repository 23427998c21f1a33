use Rattle.std.proofs.Common.{arith}
use Rattle.std.proofs.lemmas.List.Sorted.{length_permutation}
use Rattle.totem_table.proofs.NameLists.{ordered}
use Rattle.totem_table.proofs.names.in_order.Goals as goal

pub returns : goal.returns
returns g c =
    let long = length_permutation _ _ c.in_ok-sort.ensures.permutation in
    let bound = c.dedup.ensures.bound in
    ordered g.N.Ord.cmp g.N.PartialEq.eq g.met.N.Eq.laws g.met.N.Ord.total g.met.N.Ord.matches_eq g.met.N.Name.exact c.args.names.items _ _ c.in_ok-sort.ensures.permutation c.in_ok-sort.ensures.sorted c.dedup.ensures.filtered (omega (arith, long, bound, c.requires))
