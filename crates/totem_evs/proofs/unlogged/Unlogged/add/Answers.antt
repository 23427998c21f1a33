use Rattle.totem_names.specs.contracts.life.ProcOrd.TheImpl as life
use Rattle.totem_names.specs.contracts.life.ProcOrd.TheImpl.Laws.{total-law}
use Rattle.totem_evs.proofs.ProcOrder.{exact_proc}
use Rattle.totem_evs.proofs.Sets.{added}
use Rattle.totem_evs.proofs.unlogged.Unlogged.add.Goals as goal

pub returns : goal.returns
returns c = rw (← c.self.view_is) (added life.cmp-value.it total-law exact_proc _ _ _ c.in_ok-insert.ensures.updates)
