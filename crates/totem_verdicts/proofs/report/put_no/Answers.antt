use Rattle.totem_names.proofs.Writers.{wrote_then, wrote_both}
use Rattle.totem_verdicts.proofs.report.put_no.Goals as goal

pub returns : goal.returns
returns g c = wrote_then _ _ _ _ _ _ (wrote_both _ _ _ _ _ c.in_ok-put.ensures c.in_ok-put_faults.ensures) c.put-2.ensures
