use Rattle.totem_cert.proofs.Full.{full_positions}
use Rattle.totem_cert.proofs.order.positions.Goals as goal

pub returns-in-None : goal.returns-in-None
returns-in-None c = (
  c.in_ok-certificate-in-None.ensures.version,
  rw c.in_ok-certificate-in-None.ensures.lines (full_positions _ _ c.in-None.ensures.run.rising c.in_ok-lines.ensures.sound (rw c.deref.ensures.value at c.in-None.ensures.none)),
)
