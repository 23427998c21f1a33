use Rattle.totem_verdicts.specs.Endings.{explained, unexplained}
use Rattle.totem_verdicts.proofs.judging.explain.Goals as goal

pub returns-in-Ok : goal.returns-in-Ok
returns-in-Ok g c = explained _ _ c.in-Ok.ensures c.end.ensures

pub returns : goal.returns
returns g c = unexplained _ _ c.in-Err.ensures c.point.ensures
