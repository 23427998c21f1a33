use Rattle.totem_names.proofs.Writers.{wrote_then}
use Rattle.totem_verdicts.proofs.report.put_accepted.Goals as goal

pub returns : goal.returns
returns g c = rw (← c.deref.ensures.value, ← c.deref-2.ensures.value) (wrote_then _ _ _ _ _ _ c.in_ok-put_yes.ensures c.put.ensures)
