use Rattle.std.proofs.Common.{arith}
use Rattle.totem_names.proofs.Readers.{ended}
use Rattle.totem_names.proofs.reading.next.Goals as goal

pub returns-in-Ok-None-clause-read : goal.returns-in-Ok-None-clause-read
returns-in-Ok-None-clause-read g c = grind (arith, ended)
