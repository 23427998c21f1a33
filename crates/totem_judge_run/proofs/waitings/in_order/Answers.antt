use Rattle.totem_evs.specs.contracts.pending.PendingPartialEq.TheImpl as same
use Rattle.totem_evs.specs.contracts.pending.PendingEq.TheImpl.Laws.{laws-law}
use Rattle.totem_evs.specs.contracts.pending.PendingOrd.TheImpl.Laws.{matches_eq-law}
use Rattle.totem_judge_run.proofs.PendingOrder.{ordered_once}
use Rattle.totem_judge_run.proofs.waitings.in_order.Goals as goal

pub returns : goal.returns
returns c = ordered_once (same.ghosts).eq laws-law matches_eq-law c.args.list.items c.sort.new.self.items c.dedup.new.self.items c.in_ok-sort.ensures.permutation c.in_ok-sort.ensures.sorted c.dedup.ensures.filtered
