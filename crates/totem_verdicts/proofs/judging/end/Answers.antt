use Rattle.std.proofs.Common.{refl}
use Rattle.totem_verdicts.specs.Endings.{concluded, untested, faultless}
use Rattle.totem_verdicts.proofs.judging.end.Goals as goal

pub returns-in-Yes : goal.returns-in-Yes
returns-in-Yes g c = untested _ c.in-Yes.is c.tell-in-Yes.ensures

pub returns-then-not-is_empty : goal.returns-then-not-is_empty
returns-then-not-is_empty g c = faultless _ c.tell.ensures

pub returns-in_default-2 : goal.returns-in_default-2
returns-in_default-2 g c = rw c.status.ensures (concluded refl)
