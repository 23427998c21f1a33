use Rattle.totem_plain.proofs.Gathering.{ordered_once}
use Rattle.totem_plain.proofs.gathered.in_order.Goals as goal

pub returns : goal.returns
returns g c =
    ordered_once g.T.Ord.cmp g.T.PartialEq.eq g.met.T.Eq.laws g.met.T.Ord.total g.met.T.Ord.matches_eq c.requires.exact c.args.list.items _ _ c.in_ok-sort.ensures.permutation c.in_ok-sort.ensures.sorted c.dedup.ensures.filtered
