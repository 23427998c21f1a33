use Rattle.totem_names.proofs.Writers.{wrote_then, wrote_both}
use Rattle.totem_verdicts.proofs.left_open.put_yes.Goals as goal

pub returns : goal.returns
returns g c = wrote_then _ _ _ _ _ _ (wrote_both _ _ _ _ _ c.in_ok-put.ensures c.in_ok-put_each_pending.ensures) c.put_each_waiting.ensures
