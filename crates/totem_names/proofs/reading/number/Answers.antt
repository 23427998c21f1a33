use Rattle.totem_names.proofs.Readers.{handed}
use Rattle.totem_names.proofs.reading.number.Goals as goal

pub returns-in-None-clause-read : goal.returns-in-None-clause-read
returns-in-None-clause-read g c = handed _ _ _ _ _ _ c.in-None.ensures.taken c.number_by_bytes.ensures.read
