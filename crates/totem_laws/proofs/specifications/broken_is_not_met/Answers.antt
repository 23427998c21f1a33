use Rattle.totem_evs.proofs.Consistent.{not_met}
use Rattle.totem_laws.proofs.specifications.broken_is_not_met.Goals as goal

pub returns : goal.returns
returns c = not_met
