use Rattle.totem_names.proofs.Writers.{wrote_then}
use Rattle.totem_cluster.proofs.Lines.{script_not_read}
use Rattle.totem_cluster.proofs.telling.put_script_fault.Goals as goal

pub returns : goal.returns
returns g c =
    let refusal = rw (c.number.ensures, c.name.ensures) at c.in_ok-put_refusal.ensures in
    rw (← script_not_read c.args.fault.now c.in_default.not-Read) (wrote_then _ _ _ _ _ _ refusal c.put_text-2.ensures)
