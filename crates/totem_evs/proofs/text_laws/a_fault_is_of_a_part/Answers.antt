use Rattle.totem_evs.proofs.FaultParts.{of_a_part}
use Rattle.totem_evs.proofs.text_laws.a_fault_is_of_a_part.Goals as goal

pub returns : goal.returns
returns c = of_a_part
