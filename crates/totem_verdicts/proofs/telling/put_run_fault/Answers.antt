use Rattle.totem_names.proofs.Writers.{wrote_then, wrote_both}
use Rattle.totem_verdicts.proofs.Lines.{run_not_read}
use Rattle.totem_verdicts.proofs.telling.put_run_fault.Goals as goal

pub returns : goal.returns
returns g c =
    let refusal = rw (c.number.ensures, c.name.ensures) at c.in_ok-put_refusal.ensures in
    rw (← run_not_read _ c.in_default.not-Read) (wrote_then _ _ _ _ _ _ (wrote_both _ _ _ _ _ refusal c.in_ok-put_missing.ensures) c.put_text-2.ensures)
