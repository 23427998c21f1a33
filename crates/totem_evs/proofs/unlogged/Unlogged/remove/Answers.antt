use Rattle.totem_names.specs.contracts.life.ProcOrd.TheImpl as life
use Rattle.totem_names.specs.contracts.life.ProcOrd.TheImpl.Laws.{total-law}
use Rattle.totem_evs.proofs.ProcOrder.{exact_proc}
use Rattle.totem_evs.proofs.Sets.{removed}
use Rattle.totem_evs.proofs.unlogged.Unlogged.remove.Goals as goal

pub returns : goal.returns
returns c = rw (← c.self.view_is) (removed life.cmp-value.it total-law exact_proc _ _ _ c.remove.ensures.updates)
