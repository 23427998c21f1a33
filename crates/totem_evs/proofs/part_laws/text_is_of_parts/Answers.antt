use Rattle.totem_evs.proofs.PartRuns.{text_of_parts}
use Rattle.totem_evs.proofs.part_laws.text_is_of_parts.Goals as goal

pub returns : goal.returns
returns c = text_of_parts
