use Rattle.std.proofs.Common.{rules}
use Rattle.totem_names.proofs.ring.RingId.is_below.Goals as goal

pub returns : goal.returns
returns c = search rules
