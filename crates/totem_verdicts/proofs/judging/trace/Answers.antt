use Rattle.std.proofs.Common.{true, false, refl}
use Rattle.totem_verdicts.specs.Endings.{traced, untraced, misnamed}
use Rattle.totem_verdicts.proofs.judging.trace.Goals as goal

pub returns-in-Ok-true : goal.returns-in-Ok-true
returns-in-Ok-true g c = rw c.in-Some.is (traced true c.in-Ok-true.ensures refl)

pub returns-in-Ok-false : goal.returns-in-Ok-false
returns-in-Ok-false g c = rw c.in-Some.is (traced false c.in-Ok-false.ensures refl)

pub returns-in-Err : goal.returns-in-Err
returns-in-Err g c = rw c.in-Some.is (untraced _ _ c.in-Err.ensures c.point.ensures)

pub returns-in-None : goal.returns-in-None
returns-in-None g c = rw c.in-None.is (misnamed _ refl refl c.tell.ensures)
