use Rattle.totem_names.proofs.Writers.{wrote_then}
use Rattle.totem_verdicts.proofs.Lines.{cert_not_read}
use Rattle.totem_verdicts.proofs.telling.put_cert_fault.Goals as goal

pub returns : goal.returns
returns g c =
    let refusal = rw (c.number.ensures, c.name.ensures) at c.in_ok-put_refusal.ensures in
    rw (← cert_not_read _ c.in_default.not-Read) (wrote_then _ _ _ _ _ _ refusal c.put_text-2.ensures)
