use Rattle.totem_names.proofs.Writers.{wrote_then, wrote_both}
use Rattle.totem_cluster.proofs.weaving.put_woven.Goals as goal

pub returns : goal.returns
returns g c =
    rw (← c.deref.ensures.value, ← c.as_slice-steps.ensures.value)
    (wrote_then _ _ _ _ _ _ (wrote_both _ _ _ _ _ c.in_ok-put_steps.ensures c.in_ok-put_each_handed.ensures) c.put.ensures)
